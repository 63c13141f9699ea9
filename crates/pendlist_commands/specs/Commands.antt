-- What the words behind the first word of an input line of `pendlist` say (document 01, "Cases"). Decided here: ids
-- and lengths are at most 65,535; the limits of `c` are any numbers, since opening tests them. What words and numbers
-- are is in pendlist_words (specs/Words.antt); which words a line has, in pendlist_lines (specs/Grammar.antt).
use Rattle.std.specs.Prelude.{Option, Some, None, option_and_then, option_map, cond, List, ℕ, leb}
use Rattle.pendlist_words.specs.Words.{word_at, is_byte, number_of}
use Rattle.pendlist_commands.specs.declared.Command.{Command}
use Rattle.pendlist_commands.specs.declared.Command.TheVariants.{Open, Offer, Drain}

-- the last word of `c`: `-` for no TTL, or a number, the age at which a body is expired
unfoldable pub ttl_of : List ℕ → Option (Option ℕ)
ttl_of w = cond (is_byte 45 w) (Some None) (option_map Some (number_of w))

-- word k as a number, and as a TTL: a line is malformed where there is none
abbrev pub number_at : ℕ → List (List ℕ) → (ℕ → Option Command) → Option Command
number_at k ws says = option_and_then says (number_of (word_at k ws))

abbrev pub ttl_at : ℕ → List (List ℕ) → (Option ℕ → Option Command) → Option Command
ttl_at k ws says = option_and_then says (ttl_of (word_at k ws))

-- an id and a length are at most 65,535
unfoldable pub within16 : {A : Type 0} → ℕ → Option A → Option A
within16 n says = cond (leb n 65535) says None

-- a word as an id or a length
unfoldable pub small_of : List ℕ → Option ℕ
small_of w = option_and_then (λ n. within16 n (Some n)) (number_of w)

-- the words behind `c`: the limits
unfoldable pub open_of : List (List ℕ) → Option Command
open_of ws =
    number_at 1 ws (λ templates. number_at 2 ws (λ entries. number_at 3 ws (λ size.
    number_at 4 ws (λ total. ttl_at 5 ws (λ t.
    Some (Open (record {
      max_pending_flows = templates;
      max_entries_per_template = entries;
      max_entry_size_bytes = size;
      max_total_bytes = total;
      ttl = t;
    })))))))

-- the words behind `o`: id, length, clock
unfoldable pub offer_of : List (List ℕ) → Option Command
offer_of ws =
    number_at 1 ws (λ i. number_at 2 ws (λ n. number_at 3 ws (λ t.
    within16 i (within16 n (Some (Offer (record { id = i; len = n; clock = t })))))))

-- the words behind `d`: id, clock
unfoldable pub drain_of : List (List ℕ) → Option Command
drain_of ws = number_at 1 ws (λ i. number_at 2 ws (λ t. within16 i (Some (Drain (record { id = i; clock = t })))))
