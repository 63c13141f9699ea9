-- The passes over words whose header is legal, in the order in which the code makes them. Assumes nothing.
use Rattle.std.proofs.Common.{◌≡◌, ℕ, zero, suc, ◌+◌, Bool, true, false, ◌&&◌, List, [], ◌∷◌, length, take, drop, Option, Result, sym, ap, ◌∙◌, arith}
use Rattle.std.proofs.lemmas.List.{take-append-drop, length-drop, take-map, drop-map}
use Rattle.config.specs.declared.PendingFlowsConfig.{PendingFlowsConfig}
use Rattle.config.proofs.Tests.{and_fails, and_holds}
use Rattle.table.specs.declared.Damaged.{Damaged}
use Rattle.table.specs.declared.Entry.{Entry}
use Rattle.table.specs.declared.TemplateRecord.{TemplateRecord}
use Rattle.table.specs.Layout.{limits_of, total_word, held_count, entry_count, chance_count, entries_at, records_at}
use Rattle.table.specs.Table.{table_of, index, records, entries_from, records_from, index_from}
use Rattle.table.specs.Parts.{template_of, templates_of}
use Rattle.table.specs.Reads.{label_or_none}
use Rattle.table.specs.WellFormed.{index_rises, table_legal}
use Rattle.table.specs.Passes.{label_of_first, first_label}
use Rattle.table_passes.specs.Passes.{records_pass, allowed_by, Allowed, KeysSmall}
use Rattle.table_entry_test.specs.EntriesPass.{entries_pass}
use Rattle.table_watch.specs.declared.LabelSeen.{LabelSeen}
use Rattle.table_watch.specs.declared.Sought.{Sought}
use Rattle.table_watch.specs.declared.Watch.{Watch}
use Rattle.table_watch.specs.Watch.{watch_for, watch_in, seen_by, judged}
use Rattle.table_check.specs.Header.{HeaderLegal}
use Rattle.table_check.specs.Room.{RoomForAllowances}
use Rattle.table.proofs.Words.{length_entries, length_records, length_index}
use Rattle.table_check.proofs.Counted.{first_says}
use Rattle.table_check.proofs.Passes.{passes, passes_legal}

-- the records that passed have small keys
small_keys : (cap many : ℕ) (rs : List TemplateRecord) (allow : List ℕ) (sum : ℕ) →
    records_pass cap many allow sum rs ≡ true → KeysSmall rs
small_keys cap many [] allow sum t i h = absurd (omega arith)
small_keys cap many (r ∷ rs) allow sum t zero h = (first_says cap many allow sum r rs t).fresh.key_small
small_keys cap many (r ∷ rs) allow sum t (suc i) h =
    small_keys cap many rs _ _ (first_says cap many allow sum r rs t).rest i (omega arith)

pub keys_small : (rs : List TemplateRecord) {cap many : ℕ} {allow allow' : List ℕ} {t : Bool} →
    Allowed cap many rs allow allow' t → t ≡ true → KeysSmall rs
keys_small rs passed right = small_keys _ _ rs _ 0 (sym passed.test ∙ right)

-- the records are read off parts of the words, and their index with them
module _ (l : PendingFlowsConfig) (w allow₀ : List ℕ) (header : HeaderLegal l w) (room : RoomForAllowances w allow₀)
    (from : ℕ) (there : from ≡ records_at l) (parts : List (List ℕ)) {is : List ℕ} {es : List Entry}
    (read : templates_of parts ≡ records_from w from (held_count w + chance_count w))
    (index_read : is ≡ index_from w from (held_count w + chance_count w))
    (entries_read : es ≡ entries_from w entries_at (entry_count w)) where
  abbrev cap : ℕ
  cap = l.max_entries_per_template

  abbrev all : List TemplateRecord
  all = templates_of parts

  abbrev held : List TemplateRecord
  held = templates_of (take (held_count w) parts)

  abbrev handed : List TemplateRecord
  handed = templates_of (drop (held_count w) parts)

  all_records : all ≡ records w
  all_records = read ∙ rw (there, header.limits_read)

  whole_index : is ≡ index w
  whole_index = index_read ∙ rw (there, header.limits_read)

  held_records : held ≡ take (held_count w) (records w)
  held_records = sym (take-map template_of (held_count w) parts) ∙ ap (take (held_count w)) all_records

  handed_records : handed ≡ drop (held_count w) (records w)
  handed_records = sym (drop-map template_of (held_count w) parts) ∙ ap (drop (held_count w)) all_records

  -- the last pass, by the allowances and the label that it is given
  abbrev entries_test : List ℕ → ℕ → Bool
  entries_test allow out =
      entries_pass l.max_entry_size_bytes l.max_total_bytes out (total_word w) 0 allow 0 es

  words_passes : passes (length allow₀) (table_of w) (index w)
      ≡ (records_pass cap (entry_count w) allow₀ 0 all && (index_rises all 0 is && entries_test
      (allowed_by allow₀ all) (first_label handed)))
  unfolding passes
  words_passes =
      rw (
        all_records,
        whole_index,
        handed_records,
        entries_read,
        header.limits_read,
        take-append-drop (held_count w) (records w),
        length_entries w entries_at (entry_count w),
        ← room.cleared,
      )

  words_legal : passes (length allow₀) (table_of w) (index w) ≡ table_legal (table_of w) (index w)
  words_legal =
      let many = length_records w (records_at (limits_of w)) (held_count w + chance_count w) in
      passes_legal (length allow₀) (table_of w) (index w)
      (omega (arith, header.chance_single, length-drop (held_count w) (records w), many))
      room.within (rw header.limits_read at header.total_small)
      (rw (take-append-drop (held_count w) (records w)) room.enough)
      (length_index w (records_at (limits_of w)) (held_count w + chance_count w)
      ∙ sym (ap length (take-append-drop (held_count w) (records w)) ∙ many))

  module _ (allow : List ℕ) (t : Bool) (passed : Allowed cap (entry_count w) all allow₀ allow t) where
    pub records_wrong : t ≡ false → false ≡ table_legal (table_of w) (index w)
    records_wrong e = and_fails _ _ (sym passed.test ∙ e) ∙ sym words_passes ∙ words_legal

    module _ (right : t ≡ true) (u : Bool) (told : u ≡ index_rises all 0 is) where
      -- the records passed, and leave it to the other passes
      left_to : (r : Bool) → r ≡ (index_rises all 0 is && entries_test (allowed_by allow₀ all)
          (first_label handed)) → r ≡ table_legal (table_of w) (index w)
      left_to r e = and_holds r _ _ (sym passed.test ∙ right) e ∙ sym words_passes ∙ words_legal

      pub index_wrong : u ≡ false → false ≡ table_legal (table_of w) (index w)
      index_wrong e = left_to false (and_fails _ _ (sym told ∙ e))

      -- the held records and the others, split, and the first of the others' label
      module _ (rises : u ≡ true) {front back : List (List ℕ)} (split : front ≡ take (held_count w) parts)
          (behind : back ≡ drop (held_count w) parts) {label : Option ℕ} {out : ℕ}
          (first : label ≡ label_of_first (templates_of back)) (chosen : out ≡ label_or_none label) where
        handed_out : out ≡ first_label handed
        handed_out = chosen ∙ ap label_or_none first ∙ rw behind

        entries_decide : entries_test allow out ≡ table_legal (table_of w) (index w)
        entries_decide =
            left_to (entries_test allow out)
            (and_holds _ _ _ (sym told ∙ rises) (rw (passed.filled right, handed_out)))

        module _ (s : Sought) {v : Watch} (watch : v ≡ watch_for (templates_of front) l.ttl out s) where
          watch_right : v ≡ watch_in (table_of w) s
          watch_right = watch ∙ rw (split, handed_out, handed_records, held_records, header.limits_read)

          pub entries_seen : {r : Result LabelSeen Damaged} →
              r ≡ judged (entries_test allow out) (seen_by v es) →
              r ≡ judged (table_legal (table_of w) (index w)) (seen_by (watch_in (table_of w) s) (table_of w).entries)
          entries_seen h = h ∙ rw (entries_decide, watch_right, entries_read)
