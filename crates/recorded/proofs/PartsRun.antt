-- A text that is run part by part: what was run, and what the buffer still has of what was taken. Assumes nothing.
use Rattle.std.proofs.Common.{◌≡◌, refl, sym, ap, subst, ◌∙◌, ℕ, ◌+◌, ◌-◌, ◌≤◌, List, [], ◌∷◌, ◌++◌, length, take, drop, append_assoc, arith, length-append, length-drop, length-take}
use Rattle.std.specs.Prelude.{Option}
use Rattle.std.specs.Io.KnownBytes.{Consumes}
use Rattle.std.specs.List.{FoldsTo, concat, copy_within}
use Rattle.std.specs.Fn.{Mut, CalledAt}
use Rattle.std.specs.Borrow.{Bor}
use Rattle.std.proofs.lemmas.List.{take-append-drop, append-nil}
use Rattle.std.proofs.lemmas.List.Folds.{concat-append}
use lib.Seq.{take-take, take_at, take_all}
use Rattle.recorded.proofs.BytesTaken.{takes_more}

abbrev Calls : Type 0 → Type 1
Calls F = Mut F (Bor (List ℕ) × Unit {0}) (Unit {0})

one_more_run : {F : Type 0} (R : F → List ℕ → F → Type 0) (p : F) (xs : List (List ℕ)) (x : List ℕ) (m q : F) →
    FoldsTo R p xs m → R m x q → FoldsTo R p (xs ++ x ∷ []) q
one_more_run R p [] x m q e h = (q, subst (λ s. R s x q) (sym e) h, refl)
one_more_run R p (y ∷ ys) x m q e h = (e.0, e.1, one_more_run R e.0 ys x m q e.2 h)

pub record Ran {F : Type 0} (calls : Calls F) (first now : F) (known₀ known : Option (List ℕ)) (buffer : List ℕ)
    (kept : ℕ) : Type 0 where
  pub long : length buffer ≡ 65536
  pub within : kept ≤ 65536
  pub parts : List (List ℕ)
  pub folds : FoldsTo (λ p part q. CalledAt calls p part tt q) first parts now
  pub taken : Consumes known₀ known (concat parts ++ take kept buffer)

module _ {F : Type 0} {calls : Calls F} {first now : F} {known₀ known : Option (List ℕ)} {buffer : List ℕ} {kept : ℕ}
    (ran : Ran calls first now known₀ known buffer kept) (filled : List ℕ) (n : ℕ) (known' : Option (List ℕ)) (more : kept ≤ n)
    (front : take kept filled ≡ take kept buffer) (taken : Consumes known known' (drop kept (take n filled))) where
  joined : (concat ran.parts ++ take kept buffer) ++ drop kept (take n filled) ≡ concat ran.parts ++ take n filled
  joined =
      append_assoc (concat ran.parts) (take kept buffer) (drop kept (take n filled))
      ∙ ap (λ (l : List ℕ). concat ran.parts ++ l)
      (ap (λ (l : List ℕ). l ++ drop kept (take n filled)) (sym front ∙ sym (take-take kept n filled more))
      ∙ take-append-drop kept (take n filled))

  -- the buffer has what was kept and what was read
  pub all_taken : Consumes known₀ known' (concat ran.parts ++ take n filled)
  all_taken =
      subst (Consumes known₀ known') joined
      (takes_more known₀ known known' (concat ran.parts ++ take kept buffer) (drop kept (take n filled)) ran.taken taken)

  module _ (lines : ℕ) (fits : lines ≤ length (take n filled)) (last : F)
      (call : CalledAt calls now (take lines filled) tt last) (moved : List ℕ) (left : ℕ)
      (counted : left ≡ length (take n filled) - lines)
      (to_front : moved ≡ copy_within (take n filled) lines (length (take n filled)) 0)
      (same_length : length moved ≡ length (take n filled)) (room : n ≤ length filled)
      (long : length filled ≡ 65536) where
    abbrev text : List ℕ
    text = take n filled

    at_front : take left (moved ++ drop n filled) ≡ drop lines text
    at_front =
        rw (
          to_front,
          take_all (length text - lines) (drop lines text) (omega (arith, length-drop lines text)),
          append_assoc (drop lines text) (drop (0 + (length text - lines)) text) (drop n filled),
        )
        (take_at (drop lines text) (drop (0 + (length text - lines)) text ++ drop n filled) left
        (length-drop lines text ∙ sym counted))

    run_text : take lines filled ≡ take lines text
    run_text = sym (take-take lines n filled (omega (arith, length-take n filled, fits)))

    parts_joined : concat (ran.parts ++ take lines text ∷ []) ++ drop lines text ≡ concat ran.parts ++ text
    parts_joined =
        rw (
          concat-append ran.parts (take lines text ∷ []),
          append-nil (take lines text),
          append_assoc (concat ran.parts) (take lines text) (drop lines text),
          take-append-drop lines text,
        )

    -- a part was run, and what follows it is kept
    pub part_run : Ran calls first last known₀ known' (moved ++ drop n filled) left
    part_run = record {
      long = omega (arith, length-append moved (drop n filled), length-drop n filled, length-take n filled);
      within = omega (arith, length-take n filled);
      parts = ran.parts ++ take lines text ∷ [];
      folds =
          one_more_run (λ p part q. CalledAt calls p part tt q) first ran.parts (take lines text) now last ran.folds
          (subst (λ part. CalledAt calls now part tt last) run_text call);
      taken = rw (at_front, parts_joined) all_taken;
    }
