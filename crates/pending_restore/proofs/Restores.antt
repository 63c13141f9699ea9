-- The steps of a put-back, with the header as it was read: what each step asks, and what all do.
-- Assumes nothing.
use Rattle.std.proofs.Common.{Option, Some, None, Ok, Err}
use mathlib.Core.Path.{◌≡◌, refl, sym, subst, ◌∙◌}
use mathlib.Core.Bool.{Bool, true, false}
use mathlib.Core.List.{List, [], ◌∷◌, ◌++◌}
use Prim.Native.Nat.{ℕ, ◌+◌, ◌-◌, ◌≤◌, ◌<◌}
use native.Mathlib.Omega.{arith}
use lib.ListN.{length, set}
use borrow.Author.Tests.{eq-eqb, ne_eqb}
use Rattle.areas.specs.Overwrite.{overwritten}
use Rattle.config.proofs.Limits.{cap_small}
use Rattle.config.proofs.Lists.{All, all_back}
use Rattle.table.specs.declared.TemplateRecord.{TemplateRecord}
use Rattle.table.specs.Layout.{limits_of, records_at}
use Rattle.table.specs.Table.{table_of}
use Rattle.table.specs.WellFormed.{well_formed}
use Rattle.table.proofs.Facts.{LegalRecord, words_say}
use Rattle.table_entries.specs.declared.StayTest.{StayTest}
use Rattle.cache_model.specs.Cache.{done}
use Rattle.cache_model.specs.Calls.{put_back}
use Rattle.pending_flows.specs.declared.header.Header.{Header}
use Rattle.pending_flows.specs.Header.{HoldsCache, header_of}
use Rattle.pending_flows.specs.View.{areas_of, cache_of}
use Rattle.pending_calls.specs.declared.removal.Removed.{Removed}
use Rattle.pending_calls.specs.Removal.{everything, Removes}
use Rattle.pending_calls.specs.Promises.{Does}
use Rattle.pending_flows.proofs.Questions.{view_some}
use Rattle.pending_calls.proofs.Performed.{damaged_performs, performed, untouched_all}
use Rattle.pending_restore.specs.declared.PutBackRefusal.TheVariants as Refusal
use Rattle.pending_drain.specs.Handing.{zeros}
use Rattle.pending_restore.specs.Restoring.{HasChance, FindsChance, TakesBack}
use Rattle.pending_restore.specs.Promises.{PutsBack}
use Rattle.pending_drain.proofs.AsRead.{as_read}
use Rattle.pending_restore.proofs.Restored.{put_back_does}

-- ---- what is taken out

pub taken_back : (h : Header) (label less : ℕ) (w w' : List ℕ) (r : Removed) {p : ℕ} {q : StayTest} {skip : List ℕ} →
    p ≡ records_at h.limits → q ≡ everything → skip ≡ set zeros label less →
    Removes q p (h.figures.templates + h.figures.chance) h.figures.entries 1024 skip w w' r →
    TakesBack h label less w w' r
taken_back h label less w w' r from all e d = rw (← from, ← all, ← e) d

-- ---- a well-formed cache

module _ (w b : List ℕ) (n : ℕ) (t : TemplateRecord) {h : Header} (holds : HoldsCache h w (length b)) (some : 0 < n)
    (chance : HasChance n t w) where
  pub count_small : t.count ≤ 262144
  count_small =
      let legal = words_say w (length b) holds.legal in
      let right : All (LegalRecord (limits_of w) (table_of w).entries) ((table_of w).held ++ (t ∷ [])) =
      subst (λ (rs : List TemplateRecord). All (LegalRecord (limits_of w) (table_of w).entries)
      ((table_of w).held ++ rs))
      chance.handed legal.table_legal_lem.records_legal in
      omega (
        arith,
        (all_back (LegalRecord (limits_of w) (table_of w).entries) (table_of w).held (t ∷ []) right).0.within_cap,
        cap_small (limits_of w) (length b) (length w) legal.limits_legal_lem,
      )

  module _ {w' : List ℕ} {r : Removed} (taken : TakesBack h t.label (t.count - n) w w' r)
      (long : length w' ≡ length w) where
    -- the header that is written
    abbrev Written : Header → List ℕ → Type 0
    Written h w'' =
        w'' ≡ overwritten w' (header_of h.limits (record {
          cached = h.figures.cached;
          dropped = h.figures.dropped;
          total = r.bytes;
          templates = r.records;
          entries = r.entries;
          chance = 0;
        }))

    pub put_back_written : {w'' : List ℕ} → Written h w'' →
        Does (put_back t.key n) (cache_of (table_of w) b) (areas_of w b) done (areas_of w'' b)
    unfolding overwritten
    put_back_written {w''} written =
        as_read w (length b) holds
        (λ h. TakesBack h t.label (t.count - n) w w' r → Written h w'' →
        Does (put_back t.key n) (cache_of (table_of w) b) (areas_of w b) done (areas_of w'' b))
        (λ k z. rw z (put_back_does w b n t holds.legal some chance k long)) taken written

-- ---- the call, behind the test of 28

-- what was found
pub has_chance : {id n : ℕ} {w b : List ℕ} {x : Option TemplateRecord} {t : TemplateRecord} → FindsChance id n w b x →
    x ≡ Some t → HasChance n t w
has_chance {t = t} sought e = (sought.found t e).1

module _ (w b : List ℕ) (id n : ℕ) where
  pub put_back_damaged : well_formed w (length b) ≡ false →
      PutsBack id n (areas_of w b) (Err Refusal.Damaged) (areas_of w b)
  put_back_damaged damaged = record {
    performs = damaged_performs w b (put_back id n) damaged;
    refused = λ _. refl;
    nothing = λ _. refl;
    frame = untouched_all _ _ _;
  }

  pub put_back_of_none : {h : Header} → HoldsCache h w (length b) → n ≡ 0 →
      PutsBack id n (areas_of w b) (Ok tt) (areas_of w b)
  unfolding put_back
  put_back_of_none holds none = record {
    performs = performed w b (put_back id n) holds.legal (record {
      answer = rw (eq-eqb n 0 none);
      holds = view_some w b holds.legal ∙ rw (eq-eqb n 0 none);
      frame = untouched_all _ _ _;
    });
    refused = λ _. refl;
    nothing = λ _. refl;
    frame = untouched_all _ _ _;
  }

  module _ {x : Option TemplateRecord} {h : Header} (cached : HoldsCache h w (length b)) (some : n ≡ 0 → ⊥)
      (sought : FindsChance id n w b x) where
    pub put_back_refused : x ≡ None →
        PutsBack id n (areas_of w b) (Err Refusal.NoChance) (areas_of w b)
    unfolding put_back
    put_back_refused e = record {
      performs = performed w b (put_back id n) cached.legal (record {
        answer = rw (ne_eqb n 0 some, sought.absent e);
        holds = view_some w b cached.legal ∙ rw (ne_eqb n 0 some, sought.absent e);
        frame = untouched_all _ _ _;
      });
      refused = λ _. refl;
      nothing = λ _. refl;
      frame = untouched_all _ _ _;
    }

    pub put_back_done : {t : TemplateRecord} {w' b' : List ℕ} → x ≡ Some t →
        Does (put_back t.key n) (cache_of (table_of w) b) (areas_of w b) done (areas_of w' b') →
        PutsBack id n (areas_of w b) (Ok tt) (areas_of w' b')
    put_back_done {t} {w'} {b'} e d =
        let same : t.key ≡ id = sym (sought.found t e).0 in
        let does : Does (put_back id n) (cache_of (table_of w) b) (areas_of w b) done (areas_of w' b') =
        subst (λ (i : ℕ). Does (put_back i n) (cache_of (table_of w) b) (areas_of w b) done (areas_of w' b')) same d in
        record {
          performs = performed w b (put_back id n) cached.legal does;
          refused = λ q. let z : ◌≡◌ {A = ℕ} 0 1 = cc in absurd (omega arith);
          nothing = λ q. absurd (some q);
          frame = d.frame;
        }
