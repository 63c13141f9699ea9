-- A pass over the entries that keeps some and closes them up, turn by turn, whatever tells which. Assumes nothing.
use Rattle.std.proofs.Common.{◌≡◌, ℕ, ◌+◌, ◌-◌, ◌*◌, ◌%◌, ◌^◌, ◌<◌, ◌≤◌, List, [], ◌∷◌, ◌++◌, length, take, drop, sym, refl, ap, ◌∙◌, append_assoc, append-nil, arith}
use native.Mathlib.Nat.{mod-add-mod}
use Rattle.config.specs.Limits.{entry_words}
use Rattle.table.specs.declared.Entry.{Entry}
use Rattle.table.specs.Layout.{entries_at}
use Rattle.table.specs.Table.{entry_at, entries_from}
use Rattle.table.proofs.Words.{entries_first, entries_none}
use Rattle.table_entries.specs.Sums.{lens_sum, lens_word}
use Rattle.table_entries.specs.Sweep.{put_entry, KeepsOnly}
use Rattle.table_entries.proofs.Frames.{entries_below, entries_above, entries_more, length_put, take_put}
use Rattle.table_entries.proofs.Frames.{drop_put, entry_put}
use Rattle.table_entries.proofs.Lengths.{lens_more}

-- `left` entries are left, from word `from` on; `kept` are kept, of so many bytes, up to word `to`. With what `keep`
-- keeps of those that are left, they are `whole`: what the pass keeps.
pub record KeptSoFar (keep : List Entry → List Entry) (whole : List Entry) (entries : ℕ) (w₀ w : List ℕ)
    (kept bytes left from to : ℕ) : Type 0 where
  pub filled : to ≡ entries_at + entry_words * kept
  pub reached : from + entry_words * left ≡ entries_at + entry_words * entries
  pub few : kept + left ≤ entries
  pub same_length : length w ≡ length w₀
  pub rest : entries_from w entries_at kept ++ keep (entries_from w from left) ≡ whole
  pub sum : bytes ≡ lens_word (entries_from w entries_at kept)
  pub head : take entries_at w ≡ take entries_at w₀
  pub tail : drop (entries_at + entry_words * entries) w ≡ drop (entries_at + entry_words * entries) w₀

pub none_kept : (keep : List Entry → List Entry) (entries : ℕ) (w : List ℕ) {left : ℕ} → left ≡ entries →
    KeptSoFar keep (keep (entries_from w entries_at entries)) entries w w 0 0 left entries_at entries_at
unfolding entries_from lens_sum
none_kept keep entries w all = rw all record {
  filled = refl;
  reached = refl;
  few = omega arith;
  same_length = refl;
  rest = refl;
  sum = refl;
  head = refl;
  tail = refl;
}

module _ {keep : List Entry → List Entry} {whole : List Entry} {entries : ℕ} {w₀ w : List ℕ}
    {kept bytes left from to : ℕ} (inv : KeptSoFar keep whole entries w₀ w kept bytes left from to) where
  pub none_left : left ≤ 0 → keep [] ≡ [] → KeepsOnly whole entries w₀ w (record { entries = kept; bytes = bytes })
  none_left h none =
      let done : entries_from w entries_at kept ≡ whole =
      sym (append-nil (entries_from w entries_at kept)) ∙ (rw (entries_none w from left h, none) at inv.rest) in
      record {
        few = omega (arith, inv.few);
        entries = done;
        bytes = inv.sum ∙ ap lens_word done;
        head = inv.head;
        tail = inv.tail;
      }

  -- the next entry, by what `keep` makes of it and of any behind it
  module _ (keep' : List Entry → List Entry) (e : Entry) (more : 0 < left) (is : e ≡ entry_at w from)
      {left' from' : ℕ} (less : left' ≡ left - 1) (at : from' ≡ from + entry_words) where
    abbrev later : List Entry
    later = entries_from w (from + entry_words) (left - 1)

    pub entry_left_out : ((es : List Entry) → keep (e ∷ es) ≡ keep' es) →
        KeptSoFar keep' whole entries w₀ w kept bytes left' from' to
    entry_left_out goes = rw (less, at) record {
      filled = inv.filled;
      reached = omega (arith, inv.reached);
      few = omega (arith, inv.few);
      same_length = inv.same_length;
      rest = rw (← goes later, ← entries_first w from left more e is) inv.rest;
      sum = inv.sum;
      head = inv.head;
      tail = inv.tail;
    }

    module _ (stays : (es : List Entry) → keep (e ∷ es) ≡ e ∷ keep' es)
        (room : entries_at + entry_words * entries ≤ length w₀) where
      abbrev w' : List ℕ
      w' = put_entry w to e

      same_later : entries_from w' (from + entry_words) (left - 1) ≡ later
      same_later =
          entries_above w' w (from + entry_words) (left - 1) (from + entry_words) (omega arith)
          (drop_put w to e (from + entry_words) (omega (arith, inv)))

      kept_more : entries_from w' entries_at (kept + 1) ≡ entries_from w entries_at kept ++ (e ∷ [])
      kept_more =
          let at : entries_at + entry_words * kept ≡ to = sym inv.filled in
          let before : entries_from w' entries_at kept ≡ entries_from w entries_at kept =
          entries_below w' w entries_at kept to (omega (arith, inv)) (take_put w to e to (omega arith)) in
          let stored : entry_at w' (entries_at + entry_words * kept) ≡ e =
          ap (entry_at w') at ∙ entry_put w to e (omega (arith, inv)) in
          rw (entries_more w' entries_at kept, before, stored)

      pub entry_kept : (bytes' : ℕ) {to' : ℕ} → bytes' ≡ (bytes + e.len) % 2 ^ 64 → to' ≡ to + entry_words →
          KeptSoFar keep' whole entries w₀ w' (kept + 1) bytes' left' from' to'
      entry_kept bytes' adds up = rw (less, at, up) record {
        filled = omega (arith, inv.filled);
        reached = omega (arith, inv.reached);
        few = omega (arith, inv.few);
        same_length = length_put w to e ∙ inv.same_length;
        rest = rw (kept_more, same_later, append_assoc, ← stays later, ← entries_first w from left more e is)
            inv.rest;
        sum = adds ∙ rw (kept_more, lens_more, inv.sum)
            (mod-add-mod (lens_sum (entries_from w entries_at kept)) (2 ^ 64) e.len);
        head = take_put w to e entries_at (omega (arith, inv.filled)) ∙ inv.head;
        tail = drop_put w to e (entries_at + entry_words * entries) (omega (arith, inv)) ∙ inv.tail;
      }
