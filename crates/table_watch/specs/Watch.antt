-- What is watched while the entries are tested, and what was seen of it at the end.
use Rattle.std.specs.Prelude.{Option, Some, None, Result, Ok, Err}
use Rattle.table.specs.declared.Damaged.{Damaged}
use Rattle.std.specs.Prelude.{List, [], ◌∷◌, Bool, ◌&&◌, cond, ℕ, ◌+◌, ◌-◌, eqb, leb}
use Rattle.table.specs.declared.Entry.{Entry}
use Rattle.table.specs.declared.TemplateRecord.{TemplateRecord}
use Rattle.table_watch.specs.declared.Sought.{Sought}
use Rattle.table_watch.specs.declared.LabelSeen.{LabelSeen}
use Rattle.table_watch.specs.declared.Watch.{Watch}
use Rattle.table.specs.Table.{Table}
use Rattle.table.specs.Passes.{first_label}
use Rattle.table.specs.Reads.{label_of, label_or_none}

-- an entry of the watched label whose clock reading is not before the oldest
abbrev pub is_watched : Watch → Entry → Bool
is_watched v e = eqb v.label e.label && leb v.oldest e.clock

-- how many there are
unfoldable pub count_watched : Watch → List Entry → ℕ
count_watched v [] = 0
count_watched v (e ∷ es) = cond (is_watched v e) 1 0 + count_watched v es

-- the k-th of them, from 0
unfoldable pub nth_watched : Watch → ℕ → List Entry → Option Entry
nth_watched v k [] = None
nth_watched v k (e ∷ es) =
    cond (is_watched v e) (cond (eqb k 0) (Some e) (nth_watched v (k - 1) es)) (nth_watched v k es)

abbrev pub watch_of : ℕ → ℕ → ℕ → Watch
watch_of label oldest nth = record { label = label; oldest = oldest; nth = nth }

-- the entries of a label that are not expired; with a TTL of 0 all are, and what is watched for is no label
unfoldable pub live_watch : ℕ → Option ℕ → ℕ → Watch
live_watch label None clock = watch_of label 0 0
live_watch label (Some ttl) clock = cond (eqb ttl 0) (watch_of 1024 0 0) (watch_of label (clock + 1 - ttl) 0)

-- by the held records, the TTL and the handed-out label: an id's live entries, or the k-th handed-out one, expired or
-- not
unfoldable pub watch_for : List TemplateRecord → Option ℕ → ℕ → Sought → Watch
watch_for held ttl out Sought.Nothing = watch_of 1024 0 0
watch_for held ttl out (Sought.Live id clock) = live_watch (label_or_none (label_of id held)) ttl clock
watch_for held ttl out (Sought.HandedOut k) = watch_of out 0 k

-- the same in a table
abbrev pub watch_in : Table → Sought → Watch
watch_in t s = watch_for t.held t.limits.ttl (first_label t.handed) s

-- what a watch sees among entries
unfoldable pub seen_by : Watch → List Entry → LabelSeen
seen_by v es = record { live = count_watched v es; found = nth_watched v v.nth es }

-- a verdict, with what was seen where it is good
unfoldable pub judged : Bool → LabelSeen → Result LabelSeen Damaged
judged legal seen = cond legal (Ok seen) (Err (record {}))

-- As the loop goes: what is seen with one more entry.
unfoldable pub kept_of : ℕ → ℕ → Option Entry → Entry → Option Entry
kept_of live nth kept e = cond (eqb live nth) (Some e) kept

unfoldable pub passed_more : Watch → Entry → LabelSeen → LabelSeen
passed_more v e c =
    cond (is_watched v e) (record { live = c.live + 1; found = kept_of c.live v.nth c.found e }) c
