-- Rows whose records move: the same rows from another word on. Assumes nothing.
use mathlib.Core.Path.{◌≡◌, refl, sym, ap, ◌∙◌}
use mathlib.Core.List.{List}
use Prim.Native.Nat.{ℕ, zero, suc, ◌+◌, ◌*◌, ◌≤◌, ◌<◌}
use native.Mathlib.Omega.{arith}
use lib.ListN.{length, get_or, take, drop}
use lib.Seq.{get_or-take, get_or-drop}
use Rattle.areas.specs.Overwrite.{moved}
use Rattle.areas.proofs.Moves.{moved_there, take_moved, drop_moved_from}
use Rattle.config.specs.Limits.{record_words, entry_words}
use Rattle.table.specs.Layout.{word, entries_at}
use Rattle.table.specs.Table.{entries_from, records_from, index_from}
use Rattle.table_entries.proofs.Frames.{entries_below}
use Rattle.table_records.proofs.Frames.{index_shifted}

-- records are told by their words, wherever they stand
records_shifted : (w w' : List ℕ) (p p' k : ℕ) →
    ((i : ℕ) → i < record_words * k → word w (p + i) ≡ word w' (p' + i)) → records_from w p k ≡ records_from w' p' k
unfolding records_from
records_shifted w w' p p' zero same = refl
records_shifted w w' p p' (suc k) same =
    rw (
      first,
      same 1 (omega arith),
      same 2 (omega arith),
      records_shifted w w' (p + record_words) (p' + record_words) k later,
    )
  where
    first : word w p ≡ word w' p'
    first =
        let z : p + 0 ≡ p = omega arith in
        let z' : p' + 0 ≡ p' = omega arith in
        ap (word w) (sym z) ∙ same 0 (omega arith) ∙ ap (word w') z'

    later : (i : ℕ) → i < record_words * k → word w (p + record_words + i) ≡ word w' (p' + record_words + i)
    later i h =
        let z : p + (record_words + i) ≡ p + record_words + i = omega arith in
        let z' : p' + (record_words + i) ≡ p' + record_words + i = omega arith in
        ap (word w) (sym z) ∙ same (record_words + i) (omega arith) ∙ ap (word w') z'

module _ (from to k : ℕ) (w w' : List ℕ) (is : w' ≡ moved from to (record_words * k) w)
    (source : from + record_words * k ≤ length w) (target : to + record_words * k ≤ length w) where
  abbrev n : ℕ
  n = record_words * k

  word_moved : (i : ℕ) → i < n → word w' (to + i) ≡ word w (from + i)
  word_moved i h =
      let there : take n (drop to w') ≡ take n (drop from w) = rw is (moved_there from to n w source target) in
      sym (get_or-drop to w' i 0) ∙ sym (get_or-take n (drop to w') i 0 h) ∙ ap (λ (l : List ℕ). get_or l i 0) there
      ∙ get_or-take n (drop from w) i 0 h ∙ get_or-drop from w i 0

  pub records_moved : records_from w' to k ≡ records_from w from k
  records_moved = records_shifted w' w to from k word_moved

  pub index_moved : index_from w' to k ≡ index_from w from k
  index_moved = index_shifted w' w to from k there
    where
      there : (i : ℕ) → i < k → word w' (to + record_words * i + 3) ≡ word w (from + record_words * i + 3)
      there i h =
          let z : to + (record_words * i + 3) ≡ to + record_words * i + 3 = omega arith in
          let z' : from + (record_words * i + 3) ≡ from + record_words * i + 3 = omega arith in
          ap (word w') (sym z) ∙ word_moved (record_words * i + 3) (omega arith) ∙ ap (word w) z'

  pub entries_before : (m : ℕ) → entries_at + entry_words * m ≤ to →
      entries_from w' entries_at m ≡ entries_from w entries_at m
  entries_before m h = entries_below w' w entries_at m to h (rw is (take_moved from to n w source target))

  pub words_behind : (j : ℕ) → to + n ≤ j → drop j w' ≡ drop j w
  words_behind j h = rw is (drop_moved_from from to n w source target j h)
