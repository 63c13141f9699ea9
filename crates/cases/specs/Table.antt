-- Document 01's cases marked P, in one table, proved together by computation.
use Rattle.std.specs.Prelude.{◌≡◌, refl, Some, None, List, [], ◌∷◌, ◌++◌, map, ℕ, replicate}
use Rattle.wire.specs.declared.Reading.TheVariants.{V9Fixed, IpfixFixed, IpfixVariable}
use Rattle.wire.specs.Size.{least_size}
use Rattle.wire.specs.Padding.{is_complete}
use Rattle.output_fields.specs.Field.{variable_field, field_of}
use Rattle.output_scan.specs.Scan.{fields_of, record_of, records_from, figures, scan_of}
use Rattle.output_preflight.specs.Preflight.{preflight_of}
use Rattle.output_budget.specs.declared.DecodedOutputBudget.{DecodedOutputBudget}
use Rattle.output_budget.specs.Budget.{reserve_told}
use Rattle.config.specs.declared.PendingFlowsConfig.{PendingFlowsConfig}
use Rattle.cache_model.specs.Removal.{evicted, evictions, pruned}
use Rattle.cache_model.specs.Offer.{step2, step3, step4, step5, add_newest, step4or5, after_step3, after_step2}
use Rattle.cache_model.specs.Offer.{steps2to5}
use Rattle.cache_model.specs.Offer.{appended, refused_size, settled, offered}
use Rattle.cache_model.specs.Calls.{drained}
use Rattle.cache_model.specs.Queries.{would_accept, read_handed_out, figures as cacheFigures}
use Rattle.cache_model.specs.History.{Call, Drain, WouldAccept, ReadHandedOut, TakeFigures, does, after, answers}
use Rattle.cache_model.specs.Told.{limits_of, offer_of}
use Rattle.cases.specs.Questions.{Question, preflight, reserve, calls, held, told}

pub record Row : Type 0 where
  pub asks : Question
  pub says : List (List ℕ)

-- so many bytes of value 0
abbrev zeros : ℕ → List ℕ
zeros n = replicate n 0

-- the record 03 61 62 63 00 50
abbrev abc : List ℕ
abc = 0x03 ∷ 0x61 ∷ 0x62 ∷ 0x63 ∷ 0x00 ∷ 0x50 ∷ []

-- no limit that matters
abbrev many : ℕ
many = 65536

-- budget 10 and 100, 8 values used
abbrev eight_used : DecodedOutputBudget
eight_used = record {
  max_values = record { 0 = 10 };
  max_payload_bytes = record { 0 = 100 };
  used_values = record { 0 = 8 };
  used_payload_bytes = record { 0 = 0 };
  exceeded = None;
}

-- templates 2, bodies 2, entry 10, total 16, TTL 100
abbrev small : PendingFlowsConfig
small = limits_of 2 2 10 16 (Some 100)

-- offers id/length/clock: the third evicts 300 first
abbrev up_to_eviction : List Call
up_to_eviction = offer_of 300 6 0 ∷ offer_of 301 8 1 ∷ offer_of 300 4 2 ∷ []

-- the first evicts 301, the last is 20
abbrev up_to_full : List Call
up_to_full = offer_of 302 4 3 ∷ offer_of 300 1 4 ∷ offer_of 300 1 5 ∷ []

-- yes; the offer drops the 4-byte body; the drain drops one and hands out one byte; the figures
abbrev up_to_figures : List Call
up_to_figures = WouldAccept 300 1 102 ∷ offer_of 300 1 102 ∷ Drain 300 104 ∷ ReadHandedOut 0 ∷ TakeFigures ∷ []

-- 300 holds 6 bytes: no, and the offer succeeds
abbrev no_then_offer : List Call
no_then_offer = offer_of 300 6 0 ∷ WouldAccept 300 5 1 ∷ offer_of 300 5 1 ∷ []

abbrev pub table : List Row
table =
    record { asks = preflight (zeros 19) (4 ∷ 4 ∷ []) V9Fixed many; says = (0 ∷ 4 ∷ 16 ∷ 3 ∷ []) ∷ [] }
    ∷ record { asks = preflight (zeros 20) (4 ∷ 4 ∷ []) V9Fixed many; says = (7 ∷ []) ∷ [] }
    ∷ record { asks = preflight (zeros 20) (4 ∷ 4 ∷ []) IpfixFixed many; says = (0 ∷ 4 ∷ 16 ∷ 4 ∷ []) ∷ [] }
    ∷ record { asks = preflight (zeros 16) (4 ∷ 4 ∷ []) V9Fixed 1; says = (7 ∷ []) ∷ [] }
    ∷ record { asks = preflight (zeros 16) (4 ∷ 4 ∷ []) IpfixFixed 1; says = (7 ∷ []) ∷ [] }
    ∷ record { asks = preflight abc (65535 ∷ 2 ∷ []) IpfixVariable many; says = (0 ∷ 2 ∷ 5 ∷ 0 ∷ []) ∷ [] }
    ∷ record {
      asks = preflight (abc ++ zeros 3) (65535 ∷ 2 ∷ []) IpfixVariable many;
      says =
          (0 ∷ 4 ∷ 7 ∷ 0 ∷ []) ∷ [];
    }
    ∷ record { asks = preflight (abc ++ replicate 3 0xff) (65535 ∷ 2 ∷ []) IpfixVariable many; says = (7 ∷ []) ∷ [] }
    ∷ record { asks = reserve eight_used (record { 0 = 3 }) (record { 0 = 500 }); says = (23 ∷ 1 ∷ 10 ∷ 11 ∷ []) ∷ [] }
    ∷ record { asks = held small up_to_eviction; says = (301 ∷ 8 ∷ []) ∷ (300 ∷ 4 ∷ []) ∷ [] }
    ∷ record {
      asks = calls small (up_to_eviction ++ up_to_full);
      says = (0 ∷ []) ∷ (0 ∷ []) ∷ (0 ∷ []) ∷ (0 ∷ []) ∷ (0 ∷ []) ∷ (20 ∷ []) ∷ [];
    }
    ∷ record {
      asks = calls small (up_to_eviction ++ up_to_full ++ up_to_figures);
      says =
          (0 ∷ []) ∷ (0 ∷ []) ∷ (0 ∷ []) ∷ (0 ∷ []) ∷ (0 ∷ []) ∷ (20 ∷ []) ∷
          (0 ∷ 1 ∷ []) ∷ (0 ∷ []) ∷ (0 ∷ 1 ∷ []) ∷ (0 ∷ 0 ∷ []) ∷ (0 ∷ 1 ∷ 1 ∷ 4 ∷ 6 ∷ 5 ∷ 1 ∷ []) ∷ [];
    }
    ∷ record { asks = calls (limits_of 1 1 10 10 None) no_then_offer; says = (0 ∷ []) ∷ (0 ∷ 0 ∷ []) ∷ (0 ∷ []) ∷ [] }
    ∷ []

pub cases_hold : map (λ (row : Row). told row.asks) table ≡ map (λ (row : Row). row.says) table
unfolding least_size is_complete variable_field field_of fields_of record_of records_from figures scan_of preflight_of
    reserve_told evicted evictions pruned step2 step3 step4 step5 add_newest step4or5 after_step3 after_step2 steps2to5
    appended refused_size settled offered drained would_accept read_handed_out cacheFigures does after answers
cases_hold = refl
