-- Where the last body ends. Assumes nothing.
use Rattle.std.proofs.Common.{Some, None, ◌≡◌, ℕ, ◌+◌, ◌-◌, ◌^◌, ◌<◌, ◌≤◌, true, List, [], ◌∷◌, length, get_or, slice_get, sym, refl, ◌∙◌, arith}
use native.Mathlib.Numerals.{unary_clauses}
use Rattle.std.proofs.lemmas.Option.{none-some, slice_get-get_or, get_or_from_slice_get}
use Rattle.table.specs.declared.Entry.{Entry}
use Rattle.table.specs.Parts.{entry_of, entries_of}
use Rattle.table.specs.WellFormed.{places_legal}
use Rattle.table.proofs.Facts.{places_say}
use Rattle.table_entries.specs.Pack.{last_end}
use Rattle.table_entries.proofs.Lengths.{last_within}

last_of : (w : List ℕ) (ws : List (List ℕ)) → let e = entry_of (get_or (w ∷ ws) (length ws) []) in
    last_end (entries_of (w ∷ ws)) ≡ e.place + e.len
unfolding last_end
last_of w [] = refl
last_of w (x ∷ ws) = last_of x ws

-- the last of the entries, where there is one
pub no_last : (ws : List (List ℕ)) → None ≡ slice_get ws (length ws - 1) → 0 ≡ last_end (entries_of ws)
unfolding last_end
no_last [] is = refl
no_last (w ∷ ws) is =
    absurd (none-some _ (is ∙ slice_get-get_or (w ∷ ws) (length (w ∷ ws) - 1) [] (omega arith)))

module _ (e : Entry) (w : List ℕ) (is : e ≡ entry_of w) where
  pub last_end_lem : (ws : List (List ℕ)) → Some w ≡ slice_get ws (length ws - 1) →
      e.place + e.len ≡ last_end (entries_of ws)
  last_end_lem [] last = absurd (none-some _ (sym last))
  last_end_lem (x ∷ ws) last =
      let found = get_or_from_slice_get (x ∷ ws) (length ws) w [] (sym (simp unary_clauses at last)) in
      rw (is, ← found) (sym (last_of x ws))

  pub last_fits : (ws : List (List ℕ)) → Some w ≡ slice_get ws (length ws - 1) →
      last_end (entries_of ws) ≤ 18446744073709551615 → e.place + e.len < 2 ^ 64
  last_fits ws last few = omega (arith, last_end_lem ws last)

pub ruleset last_told = (no_last, last_end_lem, last_fits)

-- of bodies within `most`: no sum overflows, as no area has more than 67,108,864 bytes
module _ (most : ℕ) (es : List Entry) (legal : places_legal 0 most es ≡ true) where
  pub last_legal : last_end es ≤ most
  last_legal = last_within 0 most es (places_say 0 most es legal)

  pub last_small : most ≤ 67108864 → last_end es ≤ 18446744073709551615
  last_small small = omega (arith, last_legal)

  pub end_fits : (end len : ℕ) → most ≤ 67108864 → end ≡ last_end es → len ≤ most → end + len < 2 ^ 64
  end_fits end len small is short = omega (arith, last_legal)
