-- The rows once the bodies that were set apart have a record behind the others, if there are such bodies.
-- Assumes nothing.
use mathlib.Core.Path.{◌≡◌, refl, sym, ap, subst, ◌∙◌}
use mathlib.Core.Logic.{◌≢◌}
use mathlib.Core.List.{List, [], ◌∷◌, ◌++◌}
use Prim.Native.Nat.{ℕ, ◌+◌, ◌*◌, ◌≤◌, ◌<◌}
use native.Mathlib.Nat.{pos_of_ne-zero, add-zero}
use native.Mathlib.Omega.{arith}
use native.Mathlib.Decide.{ℕ_discrete}
use lib.ListN.{length, take, drop, length-append}
use lib.Seq.{take_at, drop_at}
use Rattle.config.specs.Limits.{record_words, entry_words}
use Rattle.config.proofs.Lists.{All, all_map}
use Rattle.areas.proofs.Puts.{drop_more}
use Rattle.table.specs.declared.Entry.{Entry}
use Rattle.table.specs.declared.TemplateRecord.{TemplateRecord}
use Rattle.table.specs.Layout.{entries_at}
use Rattle.table.specs.Table.{entries_from, records_from, index_from, tally}
use Rattle.table.specs.Reads.{count_sum}
use Rattle.table.proofs.Words.{length_records, records_behind}
use Rattle.table_entries.proofs.Frames.{entries_below}
use Rattle.table_records.specs.Add.{inserted, Adds}
use Rattle.table_records.proofs.AddedIndex.{index_after_adding}
use Rattle.cache_model.specs.Bodies.{Body, Template}
use Rattle.cache_model.specs.Cache.{no_chance, chance_of}
use Rattle.pending_flows.specs.View.{bodies_at, chance_at}
use Rattle.pending_flows.proofs.Questions.{first_records}
use Rattle.pending_flows.proofs.Templates.{length_bodies}
use Rattle.pending_flows.proofs.Weights.{count_append}
use Rattle.table_view.proofs.Tied.{apart_tied}
use Rattle.table_view.proofs.Added.{new_record, added_tied}
use Rattle.pending_calls.proofs.RemovedLemmas.{TiedRows, TiedRowsApart}
use Rattle.pending_drain.specs.Handing.{HandsOut}

-- k held records from word p on, one behind them where bodies are handed out, and m entries
pub record HandedRows (b : List ℕ) (i p k m n : ℕ) (bodies : List Body) (w w' : List ℕ) (c : ℕ) : Type 0 where
  pub tied : TiedRows p (k + c) m w'
  pub single : c ≤ 1
  pub entries : entries_from w' entries_at m ≡ entries_from w entries_at m
  pub held : records_from w' p k ≡ records_from w p k
  pub chance : chance_at b (entries_from w entries_at m) (drop k (records_from w' p (k + c))) ≡ chance_of i bodies
  pub counts : count_sum (records_from w' p (k + c)) ≡ count_sum (records_from w p k) + n
  pub behind : (q : ℕ) → (0 < n → p + record_words * (k + 1) ≤ q) → drop q w' ≡ drop q w

handed_chance : (i : ℕ) (bs : List Body) → 0 < length bs →
    ◌≡◌ {A = Template} (record { id = i; bodies = bs }) (chance_of i bs)
handed_chance i [] h = absurd (omega arith)
handed_chance i (x ∷ bs) h = refl

no_chance_lem : (i : ℕ) (bs : List Body) → length bs ≡ 0 → no_chance ≡ chance_of i bs
no_chance_lem i [] h = refl
no_chance_lem i (x ∷ bs) h = absurd (omega arith)

one_count : (r : TemplateRecord) → count_sum (r ∷ []) ≡ r.count
unfolding count_sum
one_count r = omega arith

module _ (b : List ℕ) (a i p k m n : ℕ) (w w' : List ℕ) (c : ℕ) (apart : TiedRowsApart a p k m w)
    (counted : n ≡ tally a (entries_from w entries_at m)) where
  abbrev es : List Entry
  es = entries_from w entries_at m

  abbrev rs : List TemplateRecord
  rs = records_from w p k

  abbrev template : TemplateRecord
  template = record { key = i; label = a; count = n }

  rows_without : n ≡ 0 → (c ≡ 0) × (w' ≡ w) → HandedRows b i p k m n (bodies_at b a es) w w' c
  unfolding records_from
  rows_without none h =
      rw (h.0, h.1)
      (record {
        tied = subst (λ (j : ℕ). TiedRows p j m w) (sym (add-zero k)) (apart_tied apart (sym counted ∙ none));
        single = omega arith;
        entries = refl;
        held = refl;
        chance = rw (records_behind w p k 0) (no_chance_lem i (bodies_at b a es) (omega (arith, length_bodies b a es)));
        counts = rw (add-zero k) (omega arith);
        behind = λ q r. refl;
      })

  module _ (id : i < 65536) (fresh : All (λ u. u.key ≢ i) rs) (small : 0 < tally a es → a < 1024)
      (below : entries_at + entry_words * m ≤ p) where
    rows_with : 0 < n → Adds p k template w w' → HandedRows b i p k m n (bodies_at b a es) w w' 1
    rows_with some h =
        let same : template ≡ new_record i a es = rw counted in
        let records : records_from w' p (k + 1) ≡ rs ++ (new_record i a es ∷ []) = h.records ∙ rw same in
        let long : length rs ≡ k = length_records w p k in
        let index : index_from w' p (k + 1) ≡ inserted rs i (length rs) (index_from w p k) =
        h.index ∙ ap (λ (j : ℕ). inserted rs i j (index_from w p k)) (sym long) in
        let kept : entries_from w' entries_at m ≡ es = entries_below w' w entries_at m p below h.head in
        let facts = index_after_adding rs (new_record i a es) (index_from w p k) apart.index_right
        (all_map (λ u. u.key ≢ i) (λ u. i ≢ u.key) (λ u d e. d (sym e)) rs fresh) in
        let bodies : 0 < tally a es = omega arith in
        record {
          tied = rw (records, kept, index)
              (added_tied apart i id (small bodies) fresh bodies facts.0
              (omega (arith, facts.1, apart.index_long, length-append rs (new_record i a es ∷ []))));
          single = omega arith;
          entries = kept;
          held = sym (first_records w' p k 1) ∙ ap (take k) records ∙ take_at rs _ k long;
          chance = ap (λ (us : List TemplateRecord). chance_at b es (drop k us)) records
              ∙ ap (chance_at b es) (drop_at rs _ k long)
              ∙ handed_chance i (bodies_at b a es) (omega (arith, length_bodies b a es));
          counts = ap count_sum records ∙ count_append rs (new_record i a es ∷ [])
              ∙ omega (arith, one_count (new_record i a es));
          behind = λ q r. drop_more q (p + record_words * (k + 1)) w' w (r some) h.tail;
        }

    pub rows_handed : HandsOut p k template w w' c → HandedRows b i p k m n (bodies_at b a es) w w' c
    rows_handed h = by_count (ℕ_discrete n 0)
      where
        by_count : Dec (n ≡ 0) → HandedRows b i p k m n (bodies_at b a es) w w' c
        by_count (yes d) = rows_without d (h.nothing d)
        by_count (no d) =
            let some : 0 < n = pos_of_ne-zero d in
            rw (h.some some).0 (rows_with some (h.some some).1)
