-- How many bodies and bytes a well-formed table holds and has handed out. Assumes nothing.
use mathlib.Core.Path.{◌≡◌, refl, ap, sym, ◌∙◌}
use mathlib.Core.Bool.{Bool, true, false, cond}
use mathlib.Core.List.{List, [], ◌∷◌, ◌++◌}
use Prim.Native.Nat.{ℕ, ◌+◌, ◌*◌, ◌-◌, ◌≤◌}
use native.Mathlib.Nat.{pos_of_ne-zero}
use native.Mathlib.Omega.{arith}
use lib.Dec.{eqb}
use lib.ListN.{length, drop, length-drop}
use lib.Seq.{length-take-le}
use Rattle.config.specs.declared.PendingFlowsConfig.{PendingFlowsConfig}
use Rattle.config.specs.Limits.{header_words, record_words}
use Rattle.config.proofs.Lists.{All, all_map, all_front}
use Rattle.table.specs.declared.Entry.{Entry}
use Rattle.table.specs.declared.TemplateRecord.{TemplateRecord}
use Rattle.table.specs.Layout.{limits_of, held_count, entry_count, chance_count, records_at}
use Rattle.table.specs.Table.{table_of, record_at, records_from, has_label, tally}
use Rattle.table.specs.WellFormed.{well_formed}
use Rattle.table.specs.Reads.{count_sum}
use Rattle.table.proofs.Words.{length_entries, records_behind}
use Rattle.table.proofs.Facts.{Placed, LegalWords, words_say}
use Rattle.cache_model.specs.Bodies.{size, sum_bodies, all_bodies, byte_total}
use Rattle.pending_flows.specs.View.{body_at, bodies_at, templates_at, cache_of}
use Rattle.pending_flows.proofs.Templates.{length_all_bodies}
use Rattle.pending_flows.proofs.Weights.{weigh, weigh_all, counts_sum, len, count_append}

-- Handed-out bodies, by the record behind the held ones: l are the limits that were read, p where the records begin.
module _ (w : List ℕ) (n p : ℕ) (l : PendingFlowsConfig) (ok : well_formed w n ≡ true) (limits : l ≡ limits_of w)
    (from : p ≡ records_at l) where
  start : p ≡ records_at (limits_of w)
  start = from ∙ ap records_at limits

  pub handed_within : (chance_count w ≡ 0 → ⊥) → p + record_words * held_count w + record_words ≤ length w
  handed_within some =
      let legal : LegalWords w n = words_say w n ok in
      omega (arith, start, legal.templates_fit, legal.limits_legal_lem.words_enough, pos_of_ne-zero some)

  pub handed_one : (chance_count w ≡ 0 → ⊥) → (r : TemplateRecord) → r ≡ record_at w (p + record_words * held_count w) →
      r.count ≡ count_sum (table_of w).handed
  unfolding count_sum records_from
  handed_one some r e =
      let legal : LegalWords w n = words_say w n ok in
      let c : chance_count w ≡ 1 = omega (arith, legal.chance_flag, pos_of_ne-zero some) in
      let q : records_at (limits_of w) ≡ p = sym start in
      rw (records_behind w (records_at (limits_of w)) (held_count w) (chance_count w), c, q, e) (omega arith)

pub handed_none : (w : List ℕ) → chance_count w ≡ 0 → 0 ≡ count_sum (table_of w).handed
unfolding count_sum records_from
handed_none w e = rw (records_behind w (records_at (limits_of w)) (held_count w) (chance_count w), e)

-- A body is as long as its entry says, where it lies within the bytes.
pub sized : (bytes : List ℕ) (from most : ℕ) (es : List Entry) → most ≤ length bytes → Placed from most es →
    All (λ e. size (body_at bytes e) ≡ e.len) es
sized bytes from most [] m p = tt
sized bytes from most (e ∷ es) m p = (
  length-take-le e.len (drop e.place bytes) (omega (arith, p.1, length-drop e.place bytes)),
  sized bytes (e.place + e.len) most es m p.2,
)

sizes_weigh : (bytes : List ℕ) (k : ℕ) (es : List Entry) → All (λ e. size (body_at bytes e) ≡ e.len) es →
    sum_bodies size (bodies_at bytes k es) ≡ weigh len k es
unfolding weigh
sizes_weigh bytes k [] h = refl
sizes_weigh bytes k (e ∷ es) h = by_label (eqb k e.label) (sizes_weigh bytes k es h.1)
  where
    by_label : (b : Bool) → sum_bodies size (bodies_at bytes k es) ≡ weigh len k es →
        sum_bodies size (cond b (body_at bytes e ∷ bodies_at bytes k es) (bodies_at bytes k es))
        ≡ cond b e.len 0 + weigh len k es
    by_label true ih = let s = h.0 in omega arith
    by_label false ih = omega arith

pub total_weighs : (bytes : List ℕ) (es : List Entry) (rs : List TemplateRecord) →
    All (λ e. size (body_at bytes e) ≡ e.len) es → byte_total (templates_at bytes es rs) ≡ weigh_all len rs es
unfolding weigh_all
total_weighs bytes es [] h = refl
total_weighs bytes es (r ∷ rs) h =
    let ih = total_weighs bytes es rs h in
    omega (arith, sizes_weigh bytes r.label es h)

module _ (w b : List ℕ) (ok : well_formed w (length b) ≡ true) where
  legal : LegalWords w (length b)
  legal = words_say w (length b) ok

  pub counts_right : All (λ r. r.count ≡ tally r.label (table_of w).entries) ((table_of w).held ++ (table_of w).handed)
  counts_right = all_map _ _ (λ r x. x.count_right) ((table_of w).held ++ (table_of w).handed)
      legal.table_legal_lem.records_legal

  bodies_counted : count_sum (table_of w).held + count_sum (table_of w).handed ≡ entry_count w
  bodies_counted =
      let t = table_of w in
      let known : All (λ e. has_label e.label (t.held ++ t.handed) ≡ true) t.entries =
      all_map _ _ (λ e x. x.label_known) t.entries legal.table_legal_lem.entries_legal in
      sym (count_append t.held t.handed)
      ∙ counts_sum (t.held ++ t.handed) t.entries legal.table_legal_lem.labels_differ known counts_right
      ∙ length_entries w header_words (entry_count w)

  -- held bodies and handed-out ones are all
  pub held_counted : length (all_bodies (cache_of (table_of w) b).held) + count_sum (table_of w).handed ≡ entry_count w
  held_counted =
      let t = table_of w in
      omega (
        arith,
        length_all_bodies b t.entries t.held (all_front _ t.held t.handed counts_right),
        bodies_counted,
      )

  pub bodies_read : {h : ℕ} → h ≡ count_sum (table_of w).handed →
      entry_count w - h ≡ length (all_bodies (cache_of (table_of w) b).held)
  bodies_read e = omega (arith, held_counted)

  -- no more bodies are handed out than there are
  pub handed_few : {h : ℕ} → h ≡ count_sum (table_of w).handed → h ≤ entry_count w
  handed_few e = omega (arith, bodies_counted)
