-- Adding a record: the pass that opens the index, and then the stores. Assumes nothing.
use mathlib.Core.Path.{◌≡◌, refl, ap, ◌∙◌}
use mathlib.Core.List.{List, [], ◌∷◌, ◌++◌}
use Prim.Native.Nat.{ℕ, ◌+◌, ◌*◌, ◌-◌, ◌≤◌}
use native.Mathlib.Omega.{arith}
use lib.ListN.{length, set, length-set}
use lib.Seq.{take-set-le, drop-set-lt}
use Rattle.config.specs.Limits.{record_words}
use Rattle.table.specs.declared.TemplateRecord.{TemplateRecord}
use Rattle.table.specs.Layout.{word}
use Rattle.table.specs.Table.{record_at, records_from, index_from}
use Rattle.table_records.specs.Close.{put_record}
use Rattle.table_records.specs.Add.{inserted, Adds}
use Rattle.table_records.specs.Passes.{OpensIndex}
use Rattle.table_records.proofs.Frames.{word_other, word_same, records_same, records_below, records_one_more}
use Rattle.table_records.proofs.Frames.{index_same, index_add, take_put, drop_put, word_put, record_put}

index_only : (w : List ℕ) (p : ℕ) → index_from w p 1 ≡ word w (p + 3) ∷ []
unfolding index_from
index_only w p = refl

-- the place taken, and the record stored
module _ (from records free : ℕ) (r : TemplateRecord) (w w' : List ℕ)
    (opened : OpensIndex from records r.key w w' free) (same_length : length w' ≡ length w)
    (room : from + record_words * (records + 1) ≤ length w) where
  abbrev q : ℕ
  q = from + record_words * free + 3

  abbrev taken : List ℕ
  taken = set w' q records

  abbrev p : ℕ
  p = from + record_words * records

  abbrev w'' : List ℕ
  w'' = put_record taken p r

  added_records : records_from w'' from (records + 1) ≡ records_from w from records ++ (r ∷ [])
  added_records =
      let here : record_at w'' p ≡ r = record_put taken p r (omega (arith, length-set w' q records)) in
      let before : records_from w'' from records ≡ records_from w from records =
      records_below w'' taken from records p (omega arith) (take_put taken p r p (omega arith))
      ∙ records_same taken w' from records (λ i k a b c. word_other w' q k records (λ e. omega arith))
      ∙ opened.same in
      records_one_more w'' from records ∙ rw (here, before)

  added_index : index_from w'' from (records + 1)
      ≡ inserted (records_from w from records) r.key records (index_from w from records)
  added_index =
      let parts : records + 1 ≡ free + (1 + (records - free)) = omega (arith, opened.few) in
      let at : from + record_words * free + record_words * 1 ≡ from + record_words * (free + 1) = omega arith in
      let stored : index_from w'' from (records + 1) ≡ index_from taken from (records + 1) =
      index_same w'' taken from (records + 1)
      (λ i k a b. word_put taken p r k (λ e. omega arith) (λ e. omega arith) (λ e. omega arith)) in
      let before : index_from taken from free ≡ index_from w' from free =
      index_same taken w' from free (λ i k a b. word_other w' q k records (λ e. omega arith)) in
      let here : index_from taken (from + record_words * free) 1 ≡ records ∷ [] =
      index_only taken (from + record_words * free)
      ∙ ap (λ (n : ℕ). n ∷ []) (word_same w' q records (omega (arith, opened.few))) in
      let after : index_from taken (from + record_words * (free + 1)) (records - free)
      ≡ index_from w' (from + record_words * (free + 1)) (records - free) =
      index_same taken w' (from + record_words * (free + 1)) (records - free)
      (λ i k a b. word_other w' q k records (λ e. omega arith)) in
      stored ∙ ap (index_from taken from) parts ∙ index_add taken from free (1 + (records - free))
      ∙ rw (
        before,
        index_add taken (from + record_words * free) 1 (records - free),
        here,
        at,
        after,
      )
      opened.index

  pub record_added : Adds from records r w w''
  record_added = record {
    records = added_records;
    index = added_index;
    head =
        take_put taken p r from (omega arith) ∙ take-set-le from w' q records (omega arith) ∙ opened.head;
    tail =
        drop_put taken p r (from + record_words * (records + 1)) (omega arith)
        ∙ drop-set-lt (from + record_words * (records + 1)) w' q records (omega (arith, opened.few))
        ∙ opened.tail;
  }
