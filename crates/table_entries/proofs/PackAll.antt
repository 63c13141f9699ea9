-- Packing all entries where they stand: the pass that keeps each of them. Assumes nothing.
use Rattle.std.proofs.Common.{◌≡◌, ℕ, ◌+◌, ◌-◌, ◌*◌, ◌<◌, ◌≤◌, List, length, set, sym, refl, ap, subst, ◌∙◌, arith, get_or-set_other}
use lib.Seq.{set-get_or}
use Rattle.config.specs.Limits.{entry_words}
use Rattle.table.specs.declared.Entry.{Entry}
use Rattle.table.specs.Layout.{word, entries_at}
use Rattle.table.specs.Table.{entry_at, entries_from}
use Rattle.table_entries.specs.declared.pack.Run.{Run}
use Rattle.table_entries.specs.Pack.{HoldsEntries, MovesRun, ReachesTo, KeepsPacked, Packs}
use Rattle.table_entries.specs.Sweep.{put_entry}
use Rattle.table_entries.proofs.Packed.{placed_at}
use Rattle.table_entries.proofs.PackPass.{PackedSoFar, none_packed, all_packed_up, entry_packed}

-- an entry's place stored is the entry stored with that place
place_stored : (w : List ℕ) (p at : ℕ) → put_entry w p (placed_at at (entry_at w p)) ≡ set w (p + 1) at
unfolding put_entry
place_stored w p at =
    let w' = set w (p + 1) at in
    let len : word w (p + 2) ≡ word w' (p + 2) = sym (get_or-set_other w (p + 1) (p + 2) at 0 (λ d. omega arith)) in
    let clock : word w (p + 3) ≡ word w' (p + 3) = sym (get_or-set_other w (p + 1) (p + 3) at 0 (λ d. omega arith)) in
    rw (set-get_or {A = ℕ} w p 0, len, set-get_or {A = ℕ} w' (p + 2) 0, clock, set-get_or {A = ℕ} w' (p + 3) 0)

-- the first i entries are packed, but that the run is still to be moved
abbrev pub EntriesPacked : ℕ → List ℕ → List ℕ → List ℕ → List ℕ → Run → ℕ → Type 0
EntriesPacked entries w₀ b₀ w b run i =
    PackedSoFar (λ es. es) (entries_from w₀ entries_at entries) entries w₀ b₀ w b run i (entries - i)
    (entries_at + entry_words * i) (entries_at + entry_words * i)

pub none_packed_yet : (entries : ℕ) (w b : List ℕ) → HoldsEntries entries w (length b) →
    EntriesPacked entries w b w b (record { from = 0; to = 0; len = 0 }) 0
none_packed_yet entries w b holds = none_packed (λ es. es) entries w b (omega arith) holds

module _ {entries : ℕ} {w₀ b₀ w b : List ℕ} {run : Run} {i : ℕ} (inv : EntriesPacked entries w₀ b₀ w b run i) where
  pub all_packed : entries ≤ i → (b' : List ℕ) (end : ℕ) → MovesRun run b b' end → Packs entries w₀ b₀ w b' end
  all_packed h b' end moves =
      let none : entries - i ≤ 0 = omega arith in
      let z : i ≡ entries = omega (arith, inv.few) in
      subst (λ (k : ℕ). KeepsPacked (entries_from w₀ entries_at entries) entries w₀ b₀ w b' k end) z
      (all_packed_up inv none refl b' end moves)

  pub next_packed : (e : Entry) → i < entries → e ≡ entry_at w (entries_at + entry_words * i) → (b' : List ℕ)
      (r : Run) → ReachesTo e.place run b b' r →
      EntriesPacked entries w₀ b₀ (set w (entries_at + entry_words * i + 1) (r.to + r.len)) b'
      (record { from = r.from; to = r.to; len = r.len + e.len }) (i + 1)
  next_packed e more is b' r up =
      let p = entries_at + entry_words * i in
      let stored : put_entry w p (placed_at (r.to + r.len) e) ≡ set w (p + 1) (r.to + r.len) =
      ap (λ (x : Entry). put_entry w p (placed_at (r.to + r.len) x)) is ∙ place_stored w p (r.to + r.len) in
      rw (← stored)
      (entry_packed inv e (omega arith) is b' r up (λ es. es) (λ es. refl) (omega arith) (omega arith) (omega arith))
