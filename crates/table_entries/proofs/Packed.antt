-- Packed entries: the same but for their places, which follow one another. Assumes nothing.
use Rattle.std.proofs.Common.{◌≡◌, ℕ, suc, ◌+◌, ◌≤◌, cond, eqb, List, [], ◌∷◌, length, refl, ap, arith}
use Rattle.config.proofs.Lists.{All}
use Rattle.table.specs.declared.Entry.{Entry}
use Rattle.table.specs.Table.{tally}
use Rattle.table.proofs.Facts.{Placed}
use Rattle.table_entries.specs.Sums.{lens_sum}
use Rattle.table_entries.specs.Pack.{last_end, packed_entries, packed_end}

-- an entry with another place
abbrev pub placed_at : ℕ → Entry → Entry
placed_at at e = record { label = e.label; place = at; len = e.len; clock = e.clock }

-- the end of the packed bodies
pub packed_end_lem : (at : ℕ) (es : List Entry) → packed_end at es ≡ at + lens_sum es
unfolding packed_end lens_sum
packed_end_lem at [] = omega arith
packed_end_lem at (e ∷ es) = omega (arith, packed_end_lem (at + e.len) es)

-- packed entries are placed
pub packed_placed : (at most : ℕ) (es : List Entry) → packed_end at es ≤ most → Placed at most (packed_entries at es)
unfolding packed_end packed_entries
packed_placed at most [] h = tt
packed_placed at most (e ∷ es) h =
    (omega arith, omega (arith, h, packed_end_lem (at + e.len) es), packed_placed (at + e.len) most es h)

-- what does not look at places is the same
pub all_packed : (P : Entry → Type 0) → ((at : ℕ) (e : Entry) → P e → P (placed_at at e)) → (at : ℕ) (es : List Entry) →
    All P es → All P (packed_entries at es)
unfolding packed_entries
all_packed P f at [] a = tt
all_packed P f at (e ∷ es) a = (f at e a.0, all_packed P f (at + e.len) es a.1)

pub lens_packed : (at : ℕ) (es : List Entry) → lens_sum (packed_entries at es) ≡ lens_sum es
unfolding packed_entries lens_sum
lens_packed at [] = refl
lens_packed at (e ∷ es) = ap (λ (n : ℕ). e.len + n) (lens_packed (at + e.len) es)

pub tally_packed : (k at : ℕ) (es : List Entry) → tally k (packed_entries at es) ≡ tally k es
unfolding packed_entries
tally_packed k at [] = refl
tally_packed k at (e ∷ es) =
    ap (λ (n : ℕ). cond (eqb k e.label) (suc n) n) (tally_packed k (at + e.len) es)

pub length_packed : (at : ℕ) (es : List Entry) → length (packed_entries at es) ≡ length es
unfolding packed_entries
length_packed at [] = refl
length_packed at (e ∷ es) = ap (λ (n : ℕ). suc n) (length_packed (at + e.len) es)

-- packed bodies end where the last one does, and packed once more they end there too
pub last_packed : (es : List Entry) → last_end (packed_entries 0 es) ≡ packed_end 0 es
unfolding last_end packed_entries packed_end
last_packed [] = refl
last_packed (e ∷ es) = some 0 e es
  where
    some : (at : ℕ) (e : Entry) (es : List Entry) → last_end (packed_entries at (e ∷ es)) ≡ packed_end at (e ∷ es)
    some at e [] = refl
    some at e (x ∷ es) = some (at + e.len) x es

pub packed_again : (es : List Entry) → packed_end 0 (packed_entries 0 es) ≡ packed_end 0 es
packed_again es = omega (arith, packed_end_lem 0 (packed_entries 0 es), packed_end_lem 0 es, lens_packed 0 es)
