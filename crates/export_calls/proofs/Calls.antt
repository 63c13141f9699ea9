-- A call's promise says that its answer is the definition's: so is the number handed over, and so are the values.
-- Assumes nothing.
use Rattle.std.proofs.Common.{Result, Ok, Err}
use Rattle.std.specs.Prelude.{⊤}
use Rattle.table.specs.declared.Damaged.{Damaged}
use Rattle.pending_offer.specs.declared.offering.OfferRefusal.{OfferRefusal}
use Rattle.pending_restore.specs.declared.PutBackRefusal.{PutBackRefusal}
use Rattle.pending_resize.specs.declared.resizing.ResizeRefusal.{ResizeRefusal}
use mathlib.Core.Path.{◌≡◌, ap}
use mathlib.Core.List.{List, [], ◌∷◌}
use Prim.Native.Nat.{ℕ}
use Rattle.config.specs.declared.PendingFlowsConfig.{PendingFlowsConfig}
use Rattle.pending_flows.specs.View.{Areas}
use Rattle.pending_calls.specs.Promises.{Clears, clear_answer}
use Rattle.pending_drain.specs.Promises.{Drains, drain_answer}
use Rattle.pending_restore.specs.Promises.{PutsBack, put_back_number, put_back_answer}
use Rattle.pending_offer.specs.Promises.{Offers, offer_number, offer_answer}
use Rattle.pending_resize.specs.Promises.{Resizes, resize_number, resize_answer}
use Rattle.export_queries.specs.Exports.{exported_number, Exported}
use Rattle.export_queries.proofs.Exports.{NumberIs, CountIs, exports, exports_values}
use Rattle.export_calls.specs.Calls.{ExportsCache, ExportsDrain, ExportsPutBack, ExportsResize, ExportsClear}

-- the number of an offer, of a put-back, of clearing
offer_exported : (x : Result ⊤ OfferRefusal) {r : ℕ} → NumberIs offer_number x r → r ≡ exported_number (offer_answer x)
offer_exported (Ok tt) h = h
offer_exported (Err n) h = h

put_back_exported : (x : Result ⊤ PutBackRefusal) {r : ℕ} → NumberIs put_back_number x r →
    r ≡ exported_number (put_back_answer x)
put_back_exported (Ok tt) h = h
put_back_exported (Err n) h = h

clear_exported : (x : Result ⊤ Damaged) {r : ℕ} → NumberIs (λ _. 28) x r → r ≡ exported_number (clear_answer x)
clear_exported (Ok tt) h = h
clear_exported (Err n) h = h

-- the number and the count of a drain, of a resize
drain_exported : (x : Result ℕ Damaged) {r v v' : ℕ} → CountIs (λ _. 28) x r v v' →
    Exported (drain_answer x) r (v ∷ []) (v' ∷ [])
drain_exported (Ok n) h = record { returned = h.0; written = ap (λ (k : ℕ). k ∷ []) h.1 }
drain_exported (Err n) h = record { returned = h.0; written = ap (λ (k : ℕ). k ∷ []) h.1 }

resize_exported : (x : Result ℕ ResizeRefusal) {r v v' : ℕ} → CountIs resize_number x r v v' →
    Exported (resize_answer x) r (v ∷ []) (v' ∷ [])
resize_exported (Ok n) h = record { returned = h.0; written = ap (λ (k : ℕ). k ∷ []) h.1 }
resize_exported (Err n) h = record { returned = h.0; written = ap (λ (k : ℕ). k ∷ []) h.1 }

pub exports_cache : {id clock : ℕ} {body : List ℕ} {a a' : Areas} {x : Result ⊤ OfferRefusal} {r : ℕ} →
    Offers id body clock a x a' → NumberIs offer_number x r → ExportsCache id body clock a r a'
exports_cache {x = x} p n = exports x p p.performs.answer (offer_exported x n)

pub exports_drain : {id clock : ℕ} {a a' : Areas} {x : Result ℕ Damaged} {r v v' : ℕ} → Drains id clock a x a' →
    CountIs (λ _. 28) x r v v' → ExportsDrain id clock a r a' v v'
exports_drain {x = x} p h = exports_values x p p.performs.answer (drain_exported x h)

pub exports_put_back : {id n : ℕ} {a a' : Areas} {x : Result ⊤ PutBackRefusal} {r : ℕ} → PutsBack id n a x a' →
    NumberIs put_back_number x r → ExportsPutBack id n a r a'
exports_put_back {x = x} p n = exports x p p.performs.answer (put_back_exported x n)

pub exports_resize : {l : PendingFlowsConfig} {a a' : Areas} {x : Result ℕ ResizeRefusal} {r v v' : ℕ} →
    Resizes l a x a' → CountIs resize_number x r v v' → ExportsResize l a r a' v v'
exports_resize {x = x} p h = exports_values x p p.performs.answer (resize_exported x h)

pub exports_clear : {a a' : Areas} {x : Result ⊤ Damaged} {r : ℕ} → Clears a x a' → NumberIs (λ _. 28) x r →
    ExportsClear a r a'
exports_clear {x = x} p n = exports x p p.performs.answer (clear_exported x n)
