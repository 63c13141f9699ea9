-- What an offer decides before anything is written: the model's plan (cache_model, proofs/Plans.antt), read off the
-- records and the live bodies of each label.
use Rattle.std.specs.Prelude.{Option, Some, None, ◌≡◌, List, [], ◌∷◌, Bool, true, false, not, ◌&&◌, cond, ℕ, ◌+◌, ◌≤◌, ◌<◌, eqb, leb, ltb, length, get_or, set, take, drop, replicate}
use Rattle.config.specs.declared.PendingFlowsConfig.{PendingFlowsConfig}
use Rattle.config.proofs.Lists.{All}
use Rattle.table.specs.declared.Entry.{Entry}
use Rattle.table.specs.declared.TemplateRecord.{TemplateRecord}
use Rattle.table.specs.Layout.{limits_of, held_count}
use Rattle.table.specs.Table.{table_of, tally}
use Rattle.table.specs.Passes.{label_of_first}
use Rattle.table.specs.Reads.{record_of, label_of, label_or_none, live_count}
use Rattle.table_entries.specs.declared.StayTest.{StayTest}
use Rattle.table_entries.specs.Stays.{stays}
use Rattle.table_entries.specs.Sums.{summed}
use Rattle.table_entries.specs.Sweep.{swept}
use Rattle.table_records.specs.Choose.{skip_all, skipping, live_records, label_of_first_live}
use Rattle.cache_model.specs.Bodies.{Body, size, expired, keep}
use Rattle.cache_model.specs.Offer.{accepted, refused}
use Rattle.cache_model.proofs.Plans.{plan, thin}
use Rattle.pending_flows.specs.View.{bodies_at, cache_of}
use Rattle.table_view.proofs.Swept.{body_stays}
use Rattle.offer_plan.specs.declared.plan.OfferPlan.{OfferPlan}
use Rattle.offer_plan.specs.declared.plan.Decision.{Decision}

-- by this test the bodies that are not expired stay
abbrev pub live_test : Option ℕ → ℕ → StayTest
live_test ttl clock = record {
  ttl = ttl;
  clock = clock;
  only = None;
  max_size = 18446744073709551615;
}

-- the lengths of the entries of a label together
unfoldable pub lens_of : ℕ → List Entry → ℕ
lens_of label [] = 0
lens_of label (e ∷ es) = cond (eqb label e.label) e.len 0 + lens_of label es

-- whether those of the first record have at least so many bytes
abbrev pub first_reaches : ℕ → List TemplateRecord → List Entry → Bool
first_reaches least [] es = false
first_reaches least (r ∷ rs) es = leb least (lens_of r.label es)

-- how many live bodies each label has
abbrev pub live_sums : Option ℕ → ℕ → List Entry → List ℕ
live_sums ttl clock es = summed (live_test ttl clock) false (replicate 1024 0) es

-- what holds of a record that was found
abbrev pub FoundHas : (TemplateRecord → Type 0) → Option TemplateRecord → Type 0
FoundHas P (Some r) = P r
FoundHas P None = Unit {0}

-- how many live bodies an id has
abbrev pub live_bodies : List ℕ → ℕ → ℕ → ℕ
live_bodies w id clock =
    live_count (limits_of w).ttl clock (label_or_none (label_of id (table_of w).held)) (table_of w).entries

-- as many, where a record was found, and else none
abbrev pub live_found : ℕ → Option TemplateRecord → ℕ
live_found live (Some r) = live
live_found live None = 0

-- Where the id has a record among these, it has so many live bodies.
pub record LiveSeen (id live : ℕ) (ttl : Option ℕ) (clock : ℕ) (rs : List TemplateRecord) (es : List Entry) : Type 0 where
  pub counted : FoundHas (λ r. live ≡ live_count ttl clock r.label es) (record_of id rs)

-- Each record has bodies, its count is right, and its live bodies are few enough to be summed.
pub record LiveRead (ttl : Option ℕ) (clock : ℕ) (rs : List TemplateRecord) (es : List Entry) : Type 0 where
  pub some : All (λ r. 0 < r.count) rs
  pub counts : All (λ r. r.count ≡ tally r.label es) rs
  pub live : All (λ r. live_count ttl clock r.label es ≡ get_or (live_sums ttl clock es) r.label 0) rs

-- how many live bodies a label has, where `live` has those of each label
abbrev pub live_at : List ℕ → Option ℕ → ℕ
live_at live (Some k) = get_or live k 0
live_at live None = 0

-- whether n records, but the one that was found, are as many as there may be
abbrev pub others_fill : Option ℕ → ℕ → ℕ → Bool
others_fill (Some k) n most = ltb most n
others_fill None n most = leb most n

-- the label of the least recent template with live bodies, where those templates are as many as there may be
abbrev pub first_evicted : ℕ → List ℕ → List TemplateRecord → Option ℕ
first_evicted most live rs = cond (leb most (live_records live rs)) (label_of_first_live live rs) None

-- the same where each template has live bodies
abbrev pub first_of_full : ℕ → List TemplateRecord → Option ℕ
first_of_full most rs = cond (leb most (length rs)) (label_of_first rs) None

-- what a decision says of the plan: whether the template is full, whether expired bodies of all ids go, and the label
-- of the template that goes for room, if one does
abbrev pub is_full : Decision → Bool
is_full Decision.Full = true
is_full Decision.Room = false
is_full (Decision.NoRoom first) = false

abbrev pub all_expire : Decision → Bool
all_expire Decision.Full = false
all_expire Decision.Room = false
all_expire (Decision.NoRoom first) = true

abbrev pub for_room : Decision → Option ℕ
for_room Decision.Full = None
for_room Decision.Room = None
for_room (Decision.NoRoom first) = first

-- The decision on the records that step 2 leaves, where `live` has the live bodies of each label.
pub record Decides (l : PendingFlowsConfig) (id : ℕ) (live : List ℕ) (rs : List TemplateRecord) (r : Decision) : Type 0
  where
    pub full : is_full r ≡ ltb 0 (live_at live (label_of id rs)) &&
        leb l.max_entries_per_template (live_at live (label_of id rs))
    pub all : all_expire r ≡ not (ltb 0 (live_at live (label_of id rs))) &&
        others_fill (label_of id rs) (length rs) l.max_pending_flows
    pub first : for_room r ≡ cond (all_expire r) (first_evicted l.max_pending_flows live rs) None

-- no template goes for its bytes, nothing is handed out, only the id's bodies can go as expired, and none does
pub record NothingGoes (evicted chance : ℕ) (all unaged : Bool) : Type 0 where
  pub evicts_none : evicted ≡ 0
  pub hands_none : chance ≡ 0
  pub one_id : all ≡ false
  pub none_expired : unaged ≡ true

-- whether it is certain that no body goes as expired, where so many of the id's bodies are live and its record has this
-- count
unfoldable pub none_expires : Option ℕ → Bool → ℕ → ℕ → Bool
none_expires None all count live = true
none_expires (Some ttl) all count live = not all && eqb count live

-- which bodies stay by themselves
abbrev pub plan_test : PendingFlowsConfig → ℕ → OfferPlan → StayTest
plan_test l clock r = record {
  ttl = l.ttl;
  clock = clock;
  only = cond r.all None (Some (label_or_none r.label));
  max_size = 18446744073709551615;
}

-- how many of each label's oldest bodies go: all of the templates that are evicted, and of what is handed out
unfoldable pub skip_of : List ℕ → OfferPlan → List ℕ
skip_of w r =
    set (skipping (skipping (replicate 1024 0) (take r.evicted (table_of w).held)) (table_of w).handed)
    (label_or_none r.first) skip_all

-- where the plan says that nothing goes, the sweep keeps every entry
abbrev pub KeepsAll : List ℕ → ℕ → OfferPlan → Type 0
KeepsAll w clock r =
    r.none ≡ true → swept (plan_test (limits_of w) clock r) (skip_of w r) (table_of w).entries ≡ (table_of w).entries

-- where the plan says that no body goes as expired, each stays by itself
abbrev pub NoneExpired : List ℕ → ℕ → OfferPlan → Type 0
NoneExpired w clock r =
    r.none_expired ≡ true → All (λ e. stays (plan_test (limits_of w) clock r) e ≡ true) (table_of w).entries

-- The plan is the model's for a body of this length: the verdict, and what is left of each template's bodies.
-- Nothing of what is handed out stays.
pub record Plans (w b : List ℕ) (id len clock : ℕ) (r : OfferPlan) : Type 0 where
  pub verdict : (x : Body) → size x ≡ len →
      (plan (limits_of w) (expired (limits_of w).ttl clock) id x (cache_of (table_of w) b).held).verdict
      ≡ cond r.full (refused 20) accepted
  pub label : r.label ≡ label_of id (table_of w).held
  pub thins : (x : Body) → size x ≡ len → All (λ u.
      drop (get_or (skip_of w r) u.label 0) (keep (body_stays (plan_test (limits_of w) clock r) u.label)
      (bodies_at b u.label (table_of w).entries))
      ≡ thin (limits_of w) (expired (limits_of w).ttl clock) id x (cache_of (table_of w) b).held u.key
      (bodies_at b u.label (table_of w).entries)) (table_of w).held
  pub ends_chance : All (λ u. get_or (skip_of w r) u.label 0 ≡ skip_all) (table_of w).handed
  pub few : r.evicted ≤ held_count w
  pub keeps_all : KeepsAll w clock r
  pub none_expired : NoneExpired w clock r
