-- How the calls that change a cache cross to C: a number, and values that are written on success only.
use Rattle.std.specs.Prelude.{Result, ⊤}
use Rattle.table.specs.declared.Damaged.{Damaged}
use Rattle.pending_offer.specs.declared.offering.OfferRefusal.{OfferRefusal}
use Rattle.pending_restore.specs.declared.PutBackRefusal.{PutBackRefusal}
use Rattle.pending_resize.specs.declared.resizing.ResizeRefusal.{ResizeRefusal}
use Rattle.std.specs.Prelude.{List, [], ◌∷◌, ℕ, length}
use Rattle.config.specs.declared.PendingFlowsConfig.{PendingFlowsConfig}
use Rattle.cache_model.specs.Cache.{Cache, Answer, Outcome}
use Rattle.cache_model.specs.Calls.{drained, put_back, resized, cleared}
use Rattle.cache_model.specs.Offer.{offered}
use Rattle.cache_model.specs.Reply.{called}
use Rattle.pending_flows.specs.View.{Areas, view}
use Rattle.pending_calls.specs.Promises.{Clears}
use Rattle.pending_drain.specs.Promises.{Drains}
use Rattle.pending_restore.specs.Promises.{PutsBack}
use Rattle.pending_offer.specs.Promises.{Offers, body_of}
use Rattle.pending_resize.specs.Promises.{Resizes}
use Rattle.export_queries.specs.Exports.{Exports, ExportsValues}

-- what a call that changes a cache answers, by its definition
abbrev pub answer_in : (Cache → Outcome) → Areas → Answer
answer_in f a = (called f (view a)).answer

abbrev pub ExportsCache : (id : ℕ) (body : List ℕ) (clock : ℕ) → Areas → ℕ → Areas → Type 0
ExportsCache id body clock a r a' =
    Exports (answer_in (offered id (body_of body clock)) a) (λ (x : Result ⊤ OfferRefusal). Offers id body clock a x a') r

abbrev pub ExportsDrain : (id clock : ℕ) → Areas → ℕ → Areas → (v v' : ℕ) → Type 0
ExportsDrain id clock a r a' v v' =
    ExportsValues (answer_in (drained id clock) a) (λ (x : Result ℕ Damaged). Drains id clock a x a') r (v ∷ []) (v' ∷ [])

abbrev pub ExportsPutBack : (id n : ℕ) → Areas → ℕ → Areas → Type 0
ExportsPutBack id n a r a' =
    Exports (answer_in (put_back id n) a) (λ (x : Result ⊤ PutBackRefusal). PutsBack id n a x a') r

abbrev pub ExportsResize : PendingFlowsConfig → Areas → ℕ → Areas → (v v' : ℕ) → Type 0
ExportsResize limits a r a' v v' =
    ExportsValues (answer_in (resized limits (length a.bytes) (length a.words)) a)
    (λ (x : Result ℕ ResizeRefusal). Resizes limits a x a') r (v ∷ []) (v' ∷ [])

abbrev pub ExportsClear : Areas → ℕ → Areas → Type 0
ExportsClear a r a' = Exports (answer_in cleared a) (λ (x : Result ⊤ Damaged). Clears a x a') r
