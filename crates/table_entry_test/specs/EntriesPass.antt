-- What the pass over the entries computes, as its loop goes. It stands here because the contract of the pass cites it.
-- A reader need not believe it: crate `table_check`, proofs/Passes.antt, shows that together with the other passes it
-- is `table_legal`.
use Rattle.std.specs.Prelude.{List, [], ◌∷◌, Bool, ◌&&◌, cond, ℕ, ◌+◌, ◌-◌, eqb, leb, ltb, get_or}
use Rattle.table.specs.declared.Entry.{Entry}
use Rattle.table.specs.Passes.{held_len, less_at}

-- an entry by itself, where the bodies before it end at `end`; no byte area is longer than 67,108,864
unfoldable pub entry_fits : ℕ → ℕ → Entry → Bool
entry_fits size end e = leb e.len size && (leb end e.place && leb e.place 67108864)

-- what is left of an allowance as a 32-bit number, from which one is taken before it is tested
unfoldable pub one_less : ℕ → ℕ
one_less allowed = cond (eqb allowed 0) 4294967295 (allowed - 1)

-- each entry takes one of its label's allowance and fits; the last body ends within `most`, and the held lengths, with
-- `held`, come to `total`
unfoldable pub entries_pass : ℕ → ℕ → ℕ → ℕ → ℕ → List ℕ → ℕ → List Entry → Bool
entries_pass size most out total end allow held [] = leb end most && eqb held total
entries_pass size most out total end allow held (e ∷ es) =
    ltb 0 (get_or allow e.label 0) && (entry_fits size end e && entries_pass size most out total
    (e.place + e.len) (less_at allow e.label) (held + held_len out e) es)
