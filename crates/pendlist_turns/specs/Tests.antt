-- The turns of document 01's list, cut into reads. Proved by computation.
use Rattle.std.specs.Prelude.{◌≡◌, refl, true, List, [], ◌∷◌, map, ℕ}
use Rattle.std.proofs.Math.Option.{none}
use Prim.Native.String.{String}
use Rattle.config.specs.Limits.{limits_number, areas_hold, config_number}
use Rattle.pendlist_lines.specs.Grammar.{words_of, is_byte, all_digits, value_from, number_from, number_of, ttl_of}
use Rattle.pendlist_lines.specs.Grammar.{within16, open_of, offer_of, drain_of, is_command}
use Rattle.pendlist_lines.specs.Grammar.{from_words, line_of}
use Rattle.pendlist_input.specs.Input.{lines_of, whole_lines}
use Rattle.pendlist_input.specs.Body.{ramp}
use Rattle.pendlist_lines.specs.Tests.{bytes_of}
use Rattle.cache_model.specs.Removal.{evicted, evictions, pruned}
use Rattle.cache_model.specs.Offer.{appended, step2, step3, step4, step5, add_newest, step4or5, after_step3, after_step2}
use Rattle.cache_model.specs.Offer.{steps2to5, refused_size, settled, offered}
use Rattle.cache_model.specs.Calls.{drained}
use Rattle.cache_model.specs.Queries.{figures}
use Rattle.cache_model.specs.Reply.{opening}
use Rattle.pendlist_rows.specs.Text.{places_from, decimal_of, numbers_text}
use Rattle.pendlist_calls.specs.Steps.{row_after, step_of}
use Rattle.pendlist_texts.specs.Lists.{after_lines, rows_of}
use Rattle.pendlist_turns.specs.Turns.{ready_of, turn_of, next_turn, turns_of, input_turns}

-- what the turns of these reads write, in the program's areas, which hold no cache at first
abbrev written : List String → List ℕ
written reads = (input_turns 16384 4096 true (map bytes_of reads) none).rows

-- a word is cut, a read is cut behind a newline, and the last line has no newline
pub document_table_cut :
    written ("c 2 2 10 1" ∷ "6 100\no 300 6 0\no 301 8 1\n" ∷ "o 300 4 2\nd" ∷ " 301 3" ∷ [])
    ≡ bytes_of "o 0 1 6 1 0\no 0 2 14 2 0\no 0 2 12 3 1\nd 1 1 4 3 1\n"
unfolding limits_number areas_hold config_number words_of is_byte all_digits value_from number_from number_of ttl_of
    within16 open_of offer_of drain_of is_command from_words line_of lines_of whole_lines ramp evicted evictions pruned
    step2 step3 step4 step5 add_newest step4or5 after_step3 after_step2 steps2to5 appended refused_size settled offered
    drained figures opening row_after step_of places_from decimal_of numbers_text after_lines rows_of ready_of turn_of next_turn
    turns_of input_turns
document_table_cut = refl
