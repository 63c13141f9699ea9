-- What is claimed of every history (demand 3 of document 01), and of which runs of the code.
use Rattle.std.specs.Prelude.{◌≡◌, ◌≢◌, Bool, true, false, ◌||◌, cond, ℕ, ◌+◌, ◌≤◌, ◌<◌, eqb, length}
use mathlib.Core.List.{List, [], ◌∷◌, ◌++◌, map, Memᴰ as Member, Sublistᴰ as SubList, Permᴰ as Rearranged}
use Rattle.std.specs.List.{sum_by}
use Rattle.config.specs.Limits.{config_number}
use Rattle.cache_model.specs.Bodies.{Body, Template, sum_bodies, byte_total}
use Rattle.cache_model.specs.Cache.{Cache, counter_most, Answer, done, number, says}
use Rattle.cache_model.specs.Calls.{opened}
use Rattle.cache_model.specs.History.{Call, Offer, Resize, WouldAccept, does}
use Rattle.history.specs.Account.{Opening, opening_number, Event, call, refused_opening, History, offered_by}
use Rattle.history.specs.Account.{Account, account_of, answers_of, refusals_in, held_bodies, handed_out_bodies}
use Rattle.history.specs.Account.{dropped_bodies}

-- ---- words of the claim

-- a cache with the offers' ordinals forgotten: what can be read from memory
abbrev pub unnumbered_body : Body → Body
unnumbered_body b = record b { number = 0 }

abbrev pub unnumbered_template : Template → Template
unnumbered_template t = record t { bodies = map unnumbered_body t.bodies }

abbrev pub unnumbered : Cache → Cache
unnumbered c = record c { held = map unnumbered_template c.held; chance = unnumbered_template c.chance }

-- how many offers a list of events has
abbrev pub offers_in : List Event → ℕ
offers_in es = sum_by (λ (e : Event). length (offered_by 0 e)) es

-- the bodies of the offers whose answers pass a test, each with its offer's ordinal; the first one has ordinal k
abbrev pub offers_answered : (Answer → Bool) → ℕ → List Event → List Answer → List Body
offers_answered p k [] rs = []
offers_answered p k (e ∷ es) [] = []
offers_answered p k (e ∷ es) (r ∷ rs) =
    cond (p r) (offered_by k e) [] ++ offers_answered p (k + length (offered_by k e)) es rs

abbrev pub ordinals : List Body → List ℕ
ordinals bs = map (λ b. b.number) bs

abbrev pub is_done : Answer → Bool
is_done done = true
is_done r = false

-- the refusals that count as a drop
abbrev pub is_refusal : Answer → Bool
is_refusal (number n) = eqb n 6 || (eqb n 20 || eqb n 21)
is_refusal r = false

-- how often the body of offer n stands in a list
abbrev pub times_in : ℕ → List Body → ℕ
times_in n bs = sum_bodies (λ b. cond (eqb n b.number) 1 0) bs

-- how often it is held, handed out, dropped and cleared
abbrev pub Times : ℕ → Account → (held handed_out dropped cleared : ℕ) → Type 0
Times n a held handed_out dropped cleared =
    (times_in n (held_bodies a) ≡ held) × (times_in n (handed_out_bodies a) ≡ handed_out)
    × (times_in n (dropped_bodies a) ≡ dropped) × (times_in n a.cleared ≡ cleared)

-- once in one of the four lists, and in no other
pub data OneFate (n : ℕ) (a : Account) : Type 0 where
  Held : Times n a 1 0 0 0 → OneFate n a
  HandedOut : Times n a 0 1 0 0 → OneFate n a
  Dropped : Times n a 0 0 1 0 → OneFate n a
  Cleared : Times n a 0 0 0 1 → OneFate n a

-- what became of the bodies that these events, so answered, offered
pub record Fates (events : List Event) (answers : List Answer) (a : Account) : Type 0 where
  -- accepted are the bodies of the offers that were answered `done`, unaltered, in that order
  pub accepted : a.accepted ≡ offers_answered is_done 0 events answers
  -- no two of them have the same ordinal
  pub once : (n : ℕ) → times_in n a.accepted ≤ 1
  -- what is held, handed out, dropped and cleared is together what was accepted: nothing lost, invented or altered
  pub together : Rearranged (held_bodies a ++ (handed_out_bodies a ++ (dropped_bodies a ++ a.cleared))) a.accepted
  -- the body of offer n, if it was accepted, has exactly one fate
  pub one_fate : (n : ℕ) → times_in n a.accepted ≡ 1 → OneFate n a
  -- a held template's bodies, and those that may be put back, are in the order of their offers
  pub in_order : (t : Template) → Member t a.cache.held → SubList t.bodies a.accepted
  pub chance_in_order : SubList a.cache.chance.bodies a.accepted
  -- "accepted = held + handed out + dropped + cleared"
  pub counted : length a.accepted
      ≡ length (held_bodies a) + length (handed_out_bodies a) + length (dropped_bodies a) + length a.cleared
  -- drops are dropped bodies and refused offers: those that were answered 6, 20 or 21
  pub units : length a.drops ≡ length (dropped_bodies a) + length (refusals_in a.drops)
  pub refusals : refusals_in a.drops ≡ ordinals (offers_answered is_refusal 0 events answers)

-- ---- of which runs

-- a resize is given the lengths of the cache's own areas, those of its opening
abbrev pub OwnLengths : Opening → Call → Type 0
OwnLengths own (Resize l bytes words) = (bytes ≡ own.bytes) × (words ≡ own.words)
OwnLengths own x = Unit {0}

-- areas that may be lent to a cache: when they hold one (28 is not answered), and that cache by the layout
pub record Memory : Type 1 where
  pub State : Type 0
  pub WellFormed : State → Type 0
  pub read : State → Cache

module _ (m : Memory) where
  -- what the contract of a call promises, of the areas before and after it and of its answer
  pub record Promised (x : Call) (s s' : m.State) (r : Answer) : Type 0 where
    pub keeps : m.WellFormed s → m.WellFormed s'
    pub answers : m.WellFormed s → r ≡ (does 0 x (m.read s)).answer
    pub reads : m.WellFormed s → m.read s' ≡ (does 0 x (m.read s)).cache

  -- what the contract of an opening promises, whatever the areas hold: 1 to 5 and nothing changed, or an empty cache
  pub record OpeningPromised (o : Opening) (s s' : m.State) (r : Answer) : Type 0 where
    pub refused : opening_number o ≢ 0 → (r ≡ number (opening_number o)) × (s' ≡ s)
    pub opens : opening_number o ≡ 0 → (r ≡ done) × m.WellFormed s' × (m.read s' ≡ opened o.limits)

  -- of an event in a history whose cache was opened so
  abbrev pub EventPromised : Opening → Event → m.State → m.State → Answer → Type 0
  EventPromised own (call x) s s' r = OwnLengths own x × Promised x s s' r
  EventPromised own (refused_opening o) s s' r = (opening_number o ≢ 0) × OpeningPromised o s s' r

  -- events one after the other, the areas written by nobody else
  pub data Linked (own : Opening) : List Event → m.State → List Answer → m.State → Type 0 where
    none : {s : m.State} → Linked own [] s [] s
    next : {e : Event} {es : List Event} {s s' s'' : m.State} {r : Answer} {rs : List Answer}
        → EventPromised own e s s' r → Linked own es s' rs s'' → Linked own (e ∷ es) s (r ∷ rs) s''

  -- a history as it ran
  pub record Run (h : History) : Type 0 where
    pub lent : m.State  -- the areas as they were lent
    pub found : m.State  -- as the successful opening found them
    pub empty : m.State  -- as it left them
    pub last : m.State  -- after all events
    pub refusals : List Answer
    pub opened : Answer
    pub answers : List Answer
    pub refused : Linked h.opening (map refused_opening h.refused) lent refusals found
    pub succeeds : opening_number h.opening ≡ 0
    pub opening : OpeningPromised h.opening found empty opened
    pub events : Linked h.opening h.events empty answers last

  -- ---- the claim

  pub record Accounted (h : History) (run : Run h) : Type 0 where
    -- every answer is the account's, and none is 28
    pub answers : run.refusals ++ (run.opened ∷ run.answers) ≡ answers_of h
    pub never28 : Member (number 28) (answers_of h) → ⊥
    -- the areas hold the account's cache: the limits with the TTL, the held templates by recency with their bodies in
    -- arrival order, byte for byte, both counters, the chance
    pub well_formed : m.WellFormed run.last
    pub reads : m.read run.last ≡ unnumbered (account_of h).cache
    -- the limits are legal for the areas, and the byte total is at most the configured maximum
    pub legal : config_number (m.read run.last).limits h.opening.bytes h.opening.words ≡ 0
    pub total : byte_total (m.read run.last).held ≤ (m.read run.last).limits.max_total_bytes
    -- each accepted body has exactly one fate
    pub fates : Fates h.events run.answers (account_of h)
    -- with fewer than 2^64 - 1 offers, `pending_cached` counts the accepted bodies
    pub cached : offers_in h.events < counter_most → (m.read run.last).cached ≡ length (account_of h).accepted
    -- and `pending_dropped` counts the drops: the place of each in the list is its own unit
    pub dropped : offers_in h.events < counter_most → (m.read run.last).dropped ≡ length (account_of h).drops
    -- where `would_accept` then says yes, an offer of any body of that id and length at that clock reading is accepted
    pub yes_binds : (i now : ℕ) (bytes : List ℕ) {s s' : m.State} {r : Answer}
        → Promised (WouldAccept i (length bytes) now) run.last s (says true) → Promised (Offer i bytes now) s s' r
        → r ≡ done

  -- the theorem: every run is accounted for
  abbrev pub EveryRunAccounted : Type 0
  EveryRunAccounted = (h : History) (run : Run h) → Accounted h run
