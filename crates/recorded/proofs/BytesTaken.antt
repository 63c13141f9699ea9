-- What reads into a buffer took of the bytes that are known, one behind the other. Assumes nothing.
use Rattle.std.proofs.Common.{◌≡◌, refl, sym, ap, ◌∙◌, ℕ, ◌+◌, ◌-◌, ◌≤◌, List, ◌++◌, length, take, drop, append_assoc, arith}
use Rattle.std.specs.Prelude.{Option, Some, None}
use Rattle.std.specs.Io.KnownBytes.{Consumes}
use Rattle.std.proofs.lemmas.List.{take-append-le}
use lib.Seq.{take-add, drop_at, length-take-le}
use borrow.Rule.Slice.PartMut.{put_mid, post_of, take_put}

pub takes_more : (k k' k'' : Option (List ℕ)) (b c : List ℕ) → Consumes k k' b → Consumes k' k'' c → Consumes k k'' (b ++ c)
takes_more None k' k'' b c p q = tt
takes_more (Some xs) None k'' b c p q = absurd p
takes_more (Some xs) (Some ys) None b c p q = absurd q
takes_more (Some xs) (Some ys) (Some zs) b c p q = p ∙ ap (λ (l : List ℕ). b ++ l) q ∙ sym (append_assoc b c zs)

-- the first bytes are taken
pub record Taken (known₀ known : Option (List ℕ)) (long : ℕ) (buffer : List ℕ) (done : ℕ) : Type 0 where
  pub within : done ≤ long
  pub same_length : length buffer ≡ long
  pub taken : Consumes known₀ known (take done buffer)

pub none_taken : (known : Option (List ℕ)) (buffer : List ℕ) → Taken known known (length buffer) buffer 0
none_taken None buffer = record { within = omega arith; same_length = refl; taken = tt }
none_taken (Some xs) buffer = record { within = omega arith; same_length = refl; taken = refl }

-- a read behind the first bytes
module _ (kept n : ℕ) (buffer part : List ℕ) (h : kept ≤ length buffer) (few : n ≤ length part) where
  abbrev whole : List ℕ
  whole = put_mid kept (length buffer - kept) buffer part

  pub front_kept : take kept whole ≡ take kept buffer
  front_kept = take_put kept (length buffer - kept) buffer part h

  counted : length (take kept buffer) ≡ kept
  counted = length-take-le kept buffer h

  behind : take n (drop kept whole) ≡ take n part
  behind =
      ap (take n)
      (drop_at (take kept buffer) (part ++ post_of kept (length buffer - kept) buffer) kept counted)
      ∙ take-append-le n part (post_of kept (length buffer - kept) buffer) few

  both : take (kept + n) whole ≡ take kept buffer ++ take n part
  both = rw (take-add kept n whole, front_kept, behind)

  pub part_behind : drop kept (take (kept + n) whole) ≡ take n part
  part_behind = rw both (drop_at (take kept buffer) (take n part) kept counted)

  pub more_taken : (known₀ known known' : Option (List ℕ)) → Consumes known₀ known (take kept buffer) →
      Consumes known known' (take n part) → Consumes known₀ known' (take (kept + n) whole)
  more_taken known₀ known known' p q = rw both (takes_more known₀ known known' (take kept buffer) (take n part) p q)
