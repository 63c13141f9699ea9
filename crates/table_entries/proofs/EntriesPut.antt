-- Entries stored one behind the other, from a word on, and an entry moved. Assumes nothing.
use Rattle.std.proofs.Common.{◌≡◌, ℕ, suc, ◌+◌, ◌*◌, ◌<◌, ◌≤◌, List, [], ◌∷◌, length, take, drop, sym, refl, ◌∙◌, append_assoc, add-one, arith, drop-cons}
use lib.Seq.{sets-eq}
use Rattle.areas.specs.Overwrite.{moved}
use Rattle.config.specs.Limits.{entry_words}
use Rattle.table.specs.declared.Entry.{Entry}
use Rattle.table.specs.Layout.{word}
use Rattle.table.specs.Table.{entry_at, entries_from}
use Rattle.table_entries.specs.Sweep.{put_entry}
use Rattle.table_entries.proofs.Frames.{entry_below, length_put, take_put, drop_put, entry_put}

abbrev pub put_entries : List ℕ → ℕ → List Entry → List ℕ
put_entries w p [] = w
put_entries w p (e ∷ es) = put_entries (put_entry w p e) (p + entry_words) es

pub length_puts : (w : List ℕ) (p : ℕ) (es : List Entry) → length (put_entries w p es) ≡ length w
length_puts w p [] = refl
length_puts w p (e ∷ es) = length_puts (put_entry w p e) (p + entry_words) es ∙ length_put w p e

pub take_puts : (w : List ℕ) (p : ℕ) (es : List Entry) (n : ℕ) → n ≤ p → take n (put_entries w p es) ≡ take n w
take_puts w p [] n h = refl
take_puts w p (e ∷ es) n h = take_puts (put_entry w p e) (p + entry_words) es n (omega arith) ∙ take_put w p e n h

pub drop_puts : (w : List ℕ) (p : ℕ) (es : List Entry) (n : ℕ) → p + entry_words * length es ≤ n →
    drop n (put_entries w p es) ≡ drop n w
drop_puts w p [] n h = refl
drop_puts w p (e ∷ es) n h =
    drop_puts (put_entry w p e) (p + entry_words) es n (omega arith) ∙ drop_put w p e n (omega arith)

pub entries_put : (w : List ℕ) (p : ℕ) (es : List Entry) → p + entry_words * length es ≤ length w →
    entries_from (put_entries w p es) p (length es) ≡ es
unfolding entries_from
entries_put w p [] h = refl
entries_put w p (e ∷ es) h =
    let w' = put_entry w p e in
    let stored : entry_at (put_entries w' (p + entry_words) es) p ≡ e =
    entry_below (put_entries w' (p + entry_words) es) w' p (p + entry_words) (omega arith)
    (take_puts w' (p + entry_words) es (p + entry_words) (omega arith))
    ∙ entry_put w p e (omega arith) in
    rw (stored, entries_put w' (p + entry_words) es (omega (arith, length_put w p e)))

-- an entry's words moved are the entry stored
pub entry_moved : (w : List ℕ) (from to : ℕ) → from + entry_words ≤ length w → to + entry_words ≤ length w →
    moved from to 4 w ≡ put_entry w to (entry_at w from)
unfolding moved put_entry
entry_moved w from to source target =
    let vs : List ℕ = word w from ∷ word w (from + 1) ∷ word w (from + 2) ∷ word w (from + 3) ∷ [] in
    let next : (i : ℕ) → i < length w → drop i w ≡ word w i ∷ drop (i + 1) w =
    λ i h. rw (add-one i) (drop-cons w i 0 h) in
    let two : from + 1 + 1 ≡ from + 2 = omega arith in
    let three : from + 2 + 1 ≡ from + 3 = omega arith in
    let part : take 4 (drop from w) ≡ vs =
    rw (
      next from (omega arith),
      next (from + 1) (omega arith),
      two,
      next (from + 2) (omega arith),
      three,
      next (from + 3) (omega arith),
    ) in
    let second : suc to ≡ to + 1 = omega arith in
    let third : suc (to + 1) ≡ to + 2 = omega arith in
    let fourth : suc (to + 2) ≡ to + 3 = omega arith in
    let stored = rw (second, third, fourth) at (sym (sets-eq vs w to target)) in
    rw part (sym (append_assoc (take to w) vs (drop (to + 4) w)) ∙ stored)
