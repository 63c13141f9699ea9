-- Limits that are not refused, templates that pass none of them, and what a part inherits of that.
-- Assumes nothing.
use mathlib.Core.Path.{◌≡◌, refl}
use mathlib.Core.List.{List, [], ◌∷◌, ◌++◌}
use mathlib.Core.Bool.{Bool, true, false, cond}
use Prim.Native.Nat.{ℕ, suc, ◌+◌, ◌≤◌, ◌<◌}
use native.Mathlib.Omega.{arith}
use lib.Dec.{ltb}
use lib.ListN.{length, drop, length-append}
use borrow.Author.Tests.{ltb-false}
use Rattle.config.specs.declared.PendingFlowsConfig.{PendingFlowsConfig}
use Rattle.config.specs.Limits.{config_number}
use Rattle.config.proofs.Limits.{limits_say}
use Rattle.config.proofs.Lists.{All, all_map, all_last}
use Rattle.cache_model.specs.Bodies.{Body, Template, size, sum_bodies, byte_total, without}
use Rattle.cache_model.specs.Removal.{Split, evicted, evictions, pruned}
use Rattle.cache_model.proofs.Lists.{Part, SubList, all_part, all_sub, part_map}
use Rattle.cache_model.proofs.Lists.{length_part, sub_drop}
use Rattle.cache_model.proofs.Weights.{sum_templates_lem}
use Rattle.cache_model.proofs.Parts.{Fewer, fewer_equal, sub_without, kept_part, sum_part, Differ, differ_part}
use Rattle.cache_model.proofs.Parts.{differ_last, absent_without, Filled, kept_filled}

-- what the rules need of limits that are not refused
pub record LegalLimits (l : PendingFlowsConfig) : Type 0 where
  pub templates : 0 < l.max_pending_flows
  pub entries : 0 < l.max_entries_per_template
  pub entry : l.max_entry_size_bytes ≤ l.max_total_bytes

pub config_legal : (l : PendingFlowsConfig) (bytes words : ℕ) → config_number l bytes words ≡ 0 → LegalLimits l
config_legal l bytes words e =
    let h = limits_say l bytes words e in
    record { templates = h.some_templates; entries = h.some_entries; entry = h.size_within }

-- what a sub-list of bodies inherits
abbrev pub Inherited : (List Body → Type 0) → Type 0
Inherited P = (xs ys : List Body) → SubList xs ys → P ys → P xs

-- a property of a template's bodies that can be followed through the calls
pub record Followed : Type 1 where
  pub Holds : (new bs : List Body) → Type 0  -- of the bodies bs, once the bodies `new` are accepted
  pub empty : Holds [] []
  pub inherited : (new : List Body) → Inherited (Holds new)
  -- a body is accepted into another template, or into this one
  pub later : (b : Body) (bs : List Body) → Holds [] bs → Holds (b ∷ []) bs
  pub joins : (b : Body) (bs : List Body) → Holds [] bs → Holds (b ∷ []) (bs ++ (b ∷ []))

-- no limit is passed by these templates
pub record Within (l : PendingFlowsConfig) (F : Followed) (new : List Body) (ts : List Template) : Type 0 where
  pub few : length ts ≤ l.max_pending_flows
  pub caps : All (λ t. length t.bodies ≤ l.max_entries_per_template) ts
  pub small : All (λ t. All (λ b. size b ≤ l.max_entry_size_bytes) t.bodies) ts
  pub room : byte_total ts ≤ l.max_total_bytes
  pub differ : Differ ts  -- no two have the same id
  pub filled : Filled ts  -- none is empty
  pub followed : All (λ t. F.Holds new t.bodies) ts  -- what is followed, of each

pub nothing_within : (l : PendingFlowsConfig) (F : Followed) (new : List Body) → Within l F new []
nothing_within l F new = record {
  few = omega arith;
  caps = tt;
  small = tt;
  followed = tt;
  differ = tt;
  filled = tt;
  room = omega arith;
}

pub each_inherits : (P : List Body → Type 0) → Inherited P → {ts us : List Template} → Part Fewer ts us
    → All (λ t. P t.bodies) us → All (λ t. P t.bodies) ts
each_inherits P inherited s a =
    all_part (λ t. P t.bodies) (λ t u f p. inherited t.bodies u.bodies f.1 p) s a

cap_inherited : (n : ℕ) → Inherited (λ bs. length bs ≤ n)
cap_inherited n xs ys s h = omega (arith, length_part s)

pub small_inherited : (n : ℕ) → Inherited (All (λ b. size b ≤ n))
small_inherited n xs ys s a = all_sub (λ b. size b ≤ n) s a

-- something else may be followed, where it follows
pub followed_within : {l : PendingFlowsConfig} {F G : Followed} {new new' : List Body} {ts : List Template}
    → ((bs : List Body) → F.Holds new bs → G.Holds new' bs) → Within l F new ts → Within l G new' ts
followed_within {F = F} {G = G} {new = new} {new' = new'} {ts = ts} f h = record {
  few = h.few;
  caps = h.caps;
  small = h.small;
  followed = all_map (λ t. F.Holds new t.bodies) (λ t. G.Holds new' t.bodies) (λ t p. f t.bodies p) ts
      h.followed;
  differ = h.differ;
  filled = h.filled;
  room = h.room;
}

module _ {l : PendingFlowsConfig} {F : Followed} {new : List Body} where
  pub within_part : {ts us : List Template} → Part Fewer ts us → Filled ts → Within l F new us → Within l F new ts
  within_part s f h =
      let most = l.max_entries_per_template in
      let largest = l.max_entry_size_bytes in
      record {
        few = omega (arith, length_part s);
        caps = each_inherits (λ bs. length bs ≤ most) (cap_inherited most) s h.caps;
        small = each_inherits (All (λ b. size b ≤ largest)) (small_inherited largest) s h.small;
        followed = each_inherits (F.Holds new) (F.inherited new) s h.followed;
        differ = differ_part s h.differ;
        filled = f;
        room = omega (arith, sum_part size s);
      }

  pub within_sub : {ts us : List Template} → SubList ts us → Within l F new us → Within l F new ts
  within_sub s h = within_part (part_map fewer_equal s) (all_sub (λ t. 0 < length t.bodies) s h.filled) h

  pub evicted_within : (n : ℕ) (s : Split) → Within l F new s.held → Within l F new (evicted n s).held
  unfolding evicted
  evicted_within n s h = within_sub (sub_drop n s.held) h

  pub pruned_within : (p : ℕ → Body → Bool) (s : Split) → Within l F new s.held
      → Within l F new (pruned p s).held
  unfolding pruned
  pruned_within p s h = within_part (kept_part p s.held) (kept_filled p s.held) h

  -- a template in place of the one of its id, as the newest
  pub renewed_within : (i : ℕ) (ts : List Template) (bs : List Body) → Within l F new ts
      → length (without i ts) < l.max_pending_flows → length bs ≤ l.max_entries_per_template
      → All (λ b. size b ≤ l.max_entry_size_bytes) bs → F.Holds new bs → 0 < length bs
      → byte_total (without i ts) + sum_bodies size bs ≤ l.max_total_bytes
      → Within l F new (without i ts ++ (record { id = i; bodies = bs } ∷ []))
  renewed_within i ts bs h few cap small followed some room =
      let t : Template = record { id = i; bodies = bs } in
      let others = without i ts in
      let rest : Within l F new others = within_sub (sub_without i ts) h in
      let Small : Template → Type 0 = λ u. All (λ b. size b ≤ l.max_entry_size_bytes) u.bodies in
      record {
        few = omega (arith, length-append others (t ∷ []));
        caps = all_last (λ u. length u.bodies ≤ l.max_entries_per_template) others t rest.caps cap;
        small = all_last Small others t rest.small small;
        followed = all_last (λ u. F.Holds new u.bodies) others t rest.followed followed;
        differ = differ_last others t (absent_without i ts h.differ) rest.differ;
        filled = all_last (λ u. 0 < length u.bodies) others t rest.filled some;
        room = omega (arith, sum_templates_lem size others (t ∷ []));
      }

-- after the evictions for `more` bytes they fit, if they fit in an empty cache
pub evictions_make_room : (most more : ℕ) (ts : List Template) → more ≤ most
    → byte_total (drop (evictions most more ts) ts) + more ≤ most
unfolding evictions
evictions_make_room most more [] h = omega arith
evictions_make_room most more (t ∷ ts) h = by_test (ltb most total) refl (evictions_make_room most more ts h)
  where
    total : ℕ
    total = byte_total (t ∷ ts) + more

    by_test : (q : Bool) → ltb most total ≡ q → byte_total (drop (evictions most more ts) ts) + more ≤ most
        → byte_total (drop (cond q (suc (evictions most more ts)) 0) (t ∷ ts)) + more ≤ most
    by_test true e r = r
    by_test false e r = ltb-false most total e
