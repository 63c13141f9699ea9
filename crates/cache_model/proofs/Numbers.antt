-- No rule reads an offer's number: every call commutes with a renumbering of the bodies. So a cache that is read from
-- memory, where no numbers stand, goes the same way as one with numbers. Assumes nothing.
use mathlib.Core.Path.{◌≡◌, refl, sym, ap, ap₂, ◌∙◌}
use mathlib.Core.List.{List, [], ◌∷◌, ◌++◌, map, map-append}
use mathlib.Core.Bool.{Bool, not, ◌&&◌, cond}
use Prim.Native.Nat.{ℕ, zero, suc, ◌+◌, ◌-◌}
use lib.Dec.{eqb, leb, ltb}
use lib.ListN.{length, take, drop, get_or, length-map}
use Rattle.config.specs.declared.PendingFlowsConfig.{PendingFlowsConfig}
use Rattle.config.specs.Limits.{config_number}
use Rattle.config.proofs.Tests.{cond_of}
use Rattle.cache_model.specs.Bodies.{Body, Template, size, sum_bodies, byte_total, keep, all_bodies, bodies_of}
use Rattle.cache_model.specs.Bodies.{without, unless_empty, expired}
use Rattle.cache_model.specs.Removal.{Split, untouched, evicted, evictions, kept_of, failed_of, pruned, newest_of}
use Rattle.cache_model.specs.Removal.{oldest_of, capped}
use Rattle.cache_model.specs.Cache.{Cache, done, number, Outcome, chance_of}
use Rattle.cache_model.specs.Offer.{Verdict, accepted, refused, Offered, appended, accept, refuse, step2, step3}
use Rattle.cache_model.specs.Offer.{step4, add_newest, step5, step4or5, after_step3, after_step2, steps2to5}
use Rattle.cache_model.specs.Offer.{accepted_bodies, refused_size, settled, offered}
use Rattle.cache_model.specs.Calls.{drained, restored, may_put_back, put_back, cut, shrunk, resized_to, resized}
use Rattle.cache_model.specs.Calls.{cleared}
use Rattle.cache_model.specs.Queries.{would_accept, no_body, read_handed_out, place_handed_out, figures}
use Rattle.cache_model.specs.History.{Call, Offer, Drain, PutBack, Resize, Clear, WouldAccept, ReadHandedOut}
use Rattle.cache_model.specs.History.{PlaceHandedOut, TakeFigures, does}

map_drop : {A B : Type 0} (g : A → B) (n : ℕ) (xs : List A) → drop n (map g xs) ≡ map g (drop n xs)
map_drop g zero xs = refl
map_drop g (suc n) [] = refl
map_drop g (suc n) (x ∷ xs) = map_drop g n xs

map_take : {A B : Type 0} (g : A → B) (n : ℕ) (xs : List A) → take n (map g xs) ≡ map g (take n xs)
map_take g zero xs = refl
map_take g (suc n) [] = refl
map_take g (suc n) (x ∷ xs) = ap (λ (ys : List _). g x ∷ ys) (map_take g n xs)

module _ (f : ℕ → ℕ) where
  abbrev pub renumber : Body → Body
  renumber b = record { number = f b.number; bytes = b.bytes; clock = b.clock }

  abbrev pub renumber_template : Template → Template
  renumber_template t = record { id = t.id; bodies = map renumber t.bodies }

  abbrev bodies' : List Body → List Body
  bodies' bs = map renumber bs

  abbrev held' : List Template → List Template
  held' ts = map renumber_template ts

  abbrev split' : Split → Split
  split' s = record { held = held' s.held; removed = bodies' s.removed }

  abbrev offered' : Offered → Offered
  offered' o = record { verdict = o.verdict; left = split' o.left }

  abbrev pub renumber_cache : Cache → Cache
  renumber_cache c = record {
    limits = c.limits;
    cached = c.cached;
    dropped = c.dropped;
    held = held' c.held;
    chance = renumber_template c.chance;
  }

  abbrev pub renumber_outcome : Outcome → Outcome
  renumber_outcome o = record { answer = o.answer; cache = renumber_cache o.cache }

  -- ---- bodies and templates

  sum_renumbered : (bs : List Body) → sum_bodies size (bodies' bs) ≡ sum_bodies size bs
  sum_renumbered [] = refl
  sum_renumbered (b ∷ bs) = ap (λ (n : ℕ). size b + n) (sum_renumbered bs)

  pub total_renumbered : (ts : List Template) → byte_total (held' ts) ≡ byte_total ts
  total_renumbered [] = refl
  total_renumbered (t ∷ ts) = ap₂ (λ (m n : ℕ). m + n) (sum_renumbered t.bodies) (total_renumbered ts)

  -- a test that reads no number
  keep_renumbered : (p : Body → Bool) → ((b : Body) → p (renumber b) ≡ p b) → (bs : List Body)
      → keep p (bodies' bs) ≡ bodies' (keep p bs)
  keep_renumbered p same [] = refl
  keep_renumbered p same (b ∷ bs) =
      rw (same b, keep_renumbered p same bs) (sym (cond_of bodies' (p b) (b ∷ keep p bs) (keep p bs)))

  bodies_renumbered : (i : ℕ) (ts : List Template) → bodies_of i (held' ts) ≡ bodies' (bodies_of i ts)
  bodies_renumbered i [] = refl
  bodies_renumbered i (t ∷ ts) =
      rw (bodies_renumbered i ts) (sym (cond_of bodies' (eqb i t.id) t.bodies (bodies_of i ts)))

  without_renumbered : (i : ℕ) (ts : List Template) → without i (held' ts) ≡ held' (without i ts)
  without_renumbered i [] = refl
  without_renumbered i (t ∷ ts) =
      rw (without_renumbered i ts) (sym (cond_of held' (eqb i t.id) ts (t ∷ without i ts)))

  unless_empty_renumbered : (i : ℕ) (bs : List Body) (ts : List Template)
      → unless_empty i (bodies' bs) (held' ts) ≡ held' (unless_empty i bs ts)
  unless_empty_renumbered i [] ts = refl
  unless_empty_renumbered i (b ∷ bs) ts = refl

  all_renumbered : (ts : List Template) → all_bodies (held' ts) ≡ bodies' (all_bodies ts)
  all_renumbered [] = refl
  all_renumbered (t ∷ ts) = rw (all_renumbered ts) (sym (map-append renumber t.bodies (all_bodies ts)))

  -- ---- removals

  evicted_renumbered : (n : ℕ) (s : Split) → evicted n (split' s) ≡ split' (evicted n s)
  unfolding evicted
  evicted_renumbered n s =
      let oldest = take n s.held in
      cc (
        map_drop renumber_template n s.held,
        map_take renumber_template n s.held,
        all_renumbered oldest,
        map-append renumber s.removed (all_bodies oldest),
      )

  evictions_renumbered : (most more : ℕ) (ts : List Template) → evictions most more (held' ts) ≡ evictions most more ts
  unfolding evictions
  evictions_renumbered most more [] = refl
  evictions_renumbered most more (t ∷ ts) =
      rw (sum_renumbered t.bodies, total_renumbered ts, evictions_renumbered most more ts)

  module _ (p : ℕ → Body → Bool) (same : (i : ℕ) (b : Body) → p i (renumber b) ≡ p i b) where
    kept_renumbered : (ts : List Template) → kept_of p (held' ts) ≡ held' (kept_of p ts)
    kept_renumbered [] = refl
    kept_renumbered (t ∷ ts) =
        rw (keep_renumbered (p t.id) (same t.id) t.bodies, kept_renumbered ts)
        (unless_empty_renumbered t.id (keep (p t.id) t.bodies) (kept_of p ts))

    failed_renumbered : (ts : List Template) → failed_of p (held' ts) ≡ bodies' (failed_of p ts)
    failed_renumbered [] = refl
    failed_renumbered (t ∷ ts) =
        let fails : Body → Bool = λ b. not (p t.id b) in
        rw (keep_renumbered fails (λ b. ap not (same t.id b)) t.bodies, failed_renumbered ts)
        (sym (map-append renumber (keep fails t.bodies) (failed_of p ts)))

    pruned_renumbered : (s : Split) → pruned p (split' s) ≡ split' (pruned p s)
    unfolding pruned
    pruned_renumbered s =
        cc (
          kept_renumbered s.held,
          failed_renumbered s.held,
          map-append renumber s.removed (failed_of p s.held),
        )

  newest_renumbered : (n : ℕ) (ts : List Template) → newest_of n (held' ts) ≡ held' (newest_of n ts)
  newest_renumbered n [] = refl
  newest_renumbered n (t ∷ ts) =
      let k = length t.bodies - n in
      rw (length-map t.bodies renumber, map_drop renumber k t.bodies, newest_renumbered n ts)

  oldest_renumbered : (n : ℕ) (ts : List Template) → oldest_of n (held' ts) ≡ bodies' (oldest_of n ts)
  oldest_renumbered n [] = refl
  oldest_renumbered n (t ∷ ts) =
      let k = length t.bodies - n in
      rw (length-map t.bodies renumber, map_take renumber k t.bodies, oldest_renumbered n ts)
      (sym (map-append renumber (take k t.bodies) (oldest_of n ts)))

  capped_renumbered : (n : ℕ) (s : Split) → capped n (split' s) ≡ split' (capped n s)
  unfolding capped
  capped_renumbered n s =
      cc (
        newest_renumbered n s.held,
        oldest_renumbered n s.held,
        map-append renumber s.removed (oldest_of n s.held),
      )

  -- ---- the offer

  module _ (l : PendingFlowsConfig) (old : Body → Bool) (same : (x : Body) → old (renumber x) ≡ old x) (i : ℕ)
      (b : Body) where
    appended_renumbered : (s : Split) → appended i (renumber b) (split' s) ≡ split' (appended i b s)
    unfolding appended
    appended_renumbered s =
        let bs = bodies_of i s.held in
        cc (
          without_renumbered i s.held,
          bodies_renumbered i s.held,
          map-append renumber bs (b ∷ []),
          map-append renumber_template (without i s.held) (record { id = i; bodies = bs ++ (b ∷ []) } ∷ []),
        )

    newest_offer_renumbered : (s : Split)
        → add_newest l old i (renumber b) (split' s) ≡ offered' (add_newest l old i b s)
    unfolding add_newest
    newest_offer_renumbered s =
        let full = leb l.max_pending_flows (length s.held) in
        rw (
          length-map s.held renumber_template,
          evicted_renumbered 1 s,
          appended_renumbered (evicted 1 s),
          appended_renumbered s,
        )
        (sym (cond_of offered' full (accept i b (evicted 1 s)) (accept i b s)))

    step5_renumbered : (s : Split) → step5 l old i (renumber b) (split' s) ≡ offered' (step5 l old i b s)
    unfolding step5
    step5_renumbered s =
        let p : ℕ → Body → Bool = λ j x. not (old x) in
        let full = leb l.max_pending_flows (length s.held) in
        rw (
          length-map s.held renumber_template,
          pruned_renumbered p (λ j x. ap not (same x)) s,
          newest_offer_renumbered (pruned p s),
          appended_renumbered s,
        )
        (sym (cond_of offered' full (add_newest l old i b (pruned p s)) (accept i b s)))

    step4_renumbered : (s : Split) → step4 l old i (renumber b) (split' s) ≡ offered' (step4 l old i b s)
    unfolding step4
    step4_renumbered s =
        let bs = bodies_of i s.held in
        let full = leb l.max_entries_per_template (length bs) in
        rw (bodies_renumbered i s.held, length-map bs renumber, appended_renumbered s)
        (sym (cond_of offered' full (refuse 20 s) (accept i b s)))

    step4or5_renumbered : (bs : List Body) (s : Split)
        → step4or5 l old i (renumber b) (bodies' bs) (split' s) ≡ offered' (step4or5 l old i b bs s)
    unfolding step4or5
    step4or5_renumbered [] s = step5_renumbered s
    step4or5_renumbered (x ∷ xs) s = step4_renumbered s

    after_step2_renumbered : (s : Split)
        → after_step2 l old i (renumber b) (split' s) ≡ offered' (after_step2 l old i b s)
    unfolding after_step2 after_step3 step3
    after_step2_renumbered s =
        let p : ℕ → Body → Bool = λ j x. not (eqb i j && old x) in
        let bs = bodies_of i (pruned p s).held in
        let over = ltb l.max_total_bytes (byte_total s.held + size b) in
        rw (
          total_renumbered s.held,
          pruned_renumbered p (λ j x. ap (λ (q : Bool). not (eqb i j && q)) (same x)) s,
          bodies_renumbered i (pruned p s).held,
          step4or5_renumbered bs (pruned p s),
        )
        (sym (cond_of offered' over (refuse 21 s) (step4or5 l old i b bs (pruned p s))))

    steps_renumbered : (ts : List Template)
        → steps2to5 l old i (renumber b) (held' ts) ≡ offered' (steps2to5 l old i b ts)
    unfolding steps2to5 step2
    steps_renumbered ts =
        let n = evictions l.max_total_bytes (size b) ts in
        rw (
          evictions_renumbered l.max_total_bytes (size b) ts,
          evicted_renumbered n (untouched ts),
          after_step2_renumbered (evicted n (untouched ts)),
        )

  accepted_renumbered : (v : Verdict) (b : Body) → length (accepted_bodies v (renumber b)) ≡ length
      (accepted_bodies v b)
  accepted_renumbered accepted b = refl
  accepted_renumbered (refused n) b = refl

  -- ---- the calls

  offered_renumbered : (i : ℕ) (b : Body) (c : Cache)
      → offered i (renumber b) (renumber_cache c) ≡ renumber_outcome (offered i b c)
  unfolding offered settled refused_size
  offered_renumbered i b c =
      let l = c.limits in
      let old = expired l.ttl b.clock in
      let o = steps2to5 l old i b c.held in
      rw (
        steps_renumbered l old (λ x. refl) i b c.held,
        accepted_renumbered o.verdict b,
        length-map o.left.removed renumber,
      )
      (sym (cond_of renumber_outcome (ltb l.max_entry_size_bytes (size b)) (refused_size c) (settled c b o)))

  chance_renumbered : (i : ℕ) (bs : List Body) → chance_of i (bodies' bs) ≡ renumber_template (chance_of i bs)
  chance_renumbered i [] = refl
  chance_renumbered i (b ∷ bs) = refl

  drained_renumbered : (i now : ℕ) (c : Cache) → drained i now (renumber_cache c) ≡ renumber_outcome (drained i now c)
  unfolding drained
  drained_renumbered i now c =
      let old : Body → Bool = λ b. expired c.limits.ttl now b in
      let live : Body → Bool = λ b. not (old b) in
      let bs = bodies_of i c.held in
      cc (
        bodies_renumbered i c.held,
        without_renumbered i c.held,
        keep_renumbered live (λ b. refl) bs,
        keep_renumbered old (λ b. refl) bs,
        length-map (keep live bs) renumber,
        length-map (keep old bs) renumber,
        chance_renumbered i (keep live bs),
      )

  put_back_renumbered : (i n : ℕ) (c : Cache) → put_back i n (renumber_cache c) ≡ renumber_outcome (put_back i n c)
  unfolding put_back restored
  put_back_renumbered i n c =
      let bs = c.chance.bodies in
      let k = length bs - n in
      let back : Template = record { id = i; bodies = drop k bs } in
      let nothing : Outcome = record { answer = done; cache = c } in
      let does : Outcome = record { answer = done; cache = restored i n c } in
      let refuses : Outcome = record { answer = number 25; cache = c } in
      let rest : Outcome = cond (may_put_back i n c) does refuses in
      rw (length-map bs renumber, map_drop renumber k bs, ← map-append renumber_template c.held (back ∷ []))
      (sym (cond_of renumber_outcome (eqb n 0) nothing rest
      ∙ ap (λ (o : Outcome). cond (eqb n 0) (renumber_outcome nothing) o)
      (cond_of renumber_outcome (may_put_back i n c) does refuses)))

  shrunk_renumbered : (l : PendingFlowsConfig) (ts : List Template) → shrunk l (held' ts) ≡ split' (shrunk l ts)
  unfolding shrunk
  shrunk_renumbered l ts =
      let small : ℕ → Body → Bool = λ j x. leb (size x) l.max_entry_size_bytes in
      let n = length ts - l.max_pending_flows in
      let few = evicted n (untouched ts) in
      let most = l.max_total_bytes in
      rw (
        length-map ts renumber_template,
        evicted_renumbered n (untouched ts),
        pruned_renumbered small (λ j x. refl) few,
        capped_renumbered l.max_entries_per_template (pruned small few),
        evictions_renumbered most 0 (cut l ts).held,
        evicted_renumbered (evictions most 0 (cut l ts).held) (cut l ts),
      )

  resized_renumbered : (l : PendingFlowsConfig) (bytes words : ℕ) (c : Cache)
      → resized l bytes words (renumber_cache c) ≡ renumber_outcome (resized l bytes words c)
  unfolding resized resized_to
  resized_renumbered l bytes words c =
      let s = shrunk l c.held in
      let n = config_number l bytes words in
      rw (shrunk_renumbered l c.held, length-map s.removed renumber)
      (sym (cond_of renumber_outcome (eqb n 0) (resized_to l c s) (record { answer = number n; cache = c })))

  would_accept_renumbered : (i n now : ℕ) (c : Cache) → would_accept i n now (renumber_cache c) ≡ would_accept i n now c
  unfolding would_accept
  would_accept_renumbered i n now c =
      let live : Body → Bool = λ b. not (expired c.limits.ttl now b) in
      let bs = bodies_of i c.held in
      rw (bodies_renumbered i c.held, keep_renumbered live (λ b. refl) bs, length-map (keep live bs) renumber)

  bytes_renumbered : (k : ℕ) (bs : List Body) → (get_or (bodies' bs) k no_body).bytes ≡ (get_or bs k no_body).bytes
  bytes_renumbered k [] = refl
  bytes_renumbered zero (b ∷ bs) = refl
  bytes_renumbered (suc k) (b ∷ bs) = bytes_renumbered k bs

  read_renumbered : (k : ℕ) (c : Cache) → read_handed_out k (renumber_cache c) ≡ read_handed_out k c
  unfolding read_handed_out
  read_renumbered k c = rw (length-map c.chance.bodies renumber, bytes_renumbered k c.chance.bodies)

  place_renumbered : (k : ℕ) (c : Cache) → place_handed_out k (renumber_cache c) ≡ place_handed_out k c
  unfolding place_handed_out
  place_renumbered k c = rw (length-map c.chance.bodies renumber, bytes_renumbered k c.chance.bodies)

  figures_renumbered : (c : Cache) → figures (renumber_cache c) ≡ figures c
  unfolding figures
  figures_renumbered c =
      rw (
        length-map c.held renumber_template,
        all_renumbered c.held,
        length-map (all_bodies c.held) renumber,
        total_renumbered c.held,
        length-map c.chance.bodies renumber,
      )

  pub does_renumbered : (k : ℕ) (x : Call) (c : Cache)
      → does (f k) x (renumber_cache c) ≡ renumber_outcome (does k x c)
  unfolding does cleared
  does_renumbered k (Offer i bytes now) c = offered_renumbered i (record { number = k; bytes = bytes; clock = now }) c
  does_renumbered k (Drain i now) c = drained_renumbered i now c
  does_renumbered k (PutBack i n) c = put_back_renumbered i n c
  does_renumbered k (Resize l bytes words) c = resized_renumbered l bytes words c
  does_renumbered k Clear c = refl
  does_renumbered k (WouldAccept i n now) c = rw (would_accept_renumbered i n now c)
  does_renumbered k (ReadHandedOut n) c = rw (read_renumbered n c)
  does_renumbered k (PlaceHandedOut n) c = rw (place_renumbered n c)
  does_renumbered k TakeFigures c = rw (figures_renumbered c)
