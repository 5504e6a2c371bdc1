-- Demand 3 with quick calls, from demand 3 of the plain ones: a summary that is there is true of the working copy.
use Rattle.std.proofs.Common.{◌≡◌, ℕ, zero, suc, Bool, true, false, cond, not, eqb, [], ◌∷◌, length, refl, ap, ◌∙◌, arith}
use mathlib.Core.Option.{Option, none, some}
use Rattle.model.specs.Table.{Words, nodes, header_ok}
use Rattle.model.specs.Reached.{maps_of}
use Rattle.model.specs.SoundTest.{settled, sound}
use Rattle.model.specs.Refusals.{unless_refused, test, first_number}
use Rattle.model.specs.Demand3.{Fate, whole, cut, Event, History, State, both, number_of, after_fate, after_refusal, step, run_from}
use Rattle.model.specs.Demand3.{FateMay, MayFrom}
use Rattle.model.specs.Summary.{summary_words, opened, open_number, opened_words}
use Rattle.model.specs.QuickHistories.{call, opens, quick, Act, Acts, Host, host, quick_number_of, quick_after, quick_refused, quick_step}
use Rattle.model.specs.QuickHistories.{act_step, run_acts}
use Rattle.model.specs.QuickHistories.{QuickFate, QuickMay, MayActs, plainly, plain, Same, OpensRight, LastRight, SameFrom, KeptActs}
use Rattle.model.specs.QuickHistories.{Demand3Quick}
use Rattle.two_laws.proofs.SearchTwo.{sound-head}
use Rattle.summary_laws.specs.Current.{Current}
use Rattle.summary_laws.proofs.Opened.{opened-current}
use Rattle.summary_laws.proofs.Quick.{quick-number, quick-written, quick-table, quick-list, quick-true}
use Rattle.summary_laws.proofs.Pages.{quick-listed, quick-list-out}
use Rattle.summary_laws.proofs.Batches.{quick-batch}
use Rattle.crash_laws.proofs.Demand3.{refused-table, demand3-from, along}

-- what a host may have: a summary that is true of the working copy, or none
abbrev pub Good : Host → Type 0
Good h = (ws : Words) → h.summary ≡ some ws → Current ws h.state.working

not-some : (ws : Words) → ◌≡◌ {A = Option Words} none (some ws) → ⊥
not-some ws e = let z : ◌≡◌ {A = ℕ} 0 1 = cc in omega arith

some-is : (a b : Words) → ◌≡◌ {A = Option Words} (some a) (some b) → a ≡ b
some-is a b e = cc

-- ---- a quick call

module _ (ws : Words) (s : State) (e : Event) (c : Current ws s.working) where
  same : Same ws s e
  same = record {
    number = quick-number ws s.working c e.call (length e.lent) e.dock;
    answer = quick-written ws s.working c e.call (length e.lent) e.dock;
    list = quick-list ws s.working c e.call e.lent e.dock;
    table = quick-table ws s.working c e.call (length e.lent) e.dock;
  }

  -- it leaves the state of the plain call
  after-state : (f : Fate) → (quick_after f ws s e).state ≡ after_fate f s (plainly e)
  after-state whole = rw (same.answer, same.list, same.table)
  after-state (cut k m) = refl

  refused-state : (quick_refused ws s e).state ≡ after_refusal s (plainly e)
  refused-state = rw same.table

  quick-state : (quick_step (some ws) s e).state ≡ step s (plainly e)
  unfolding step
  quick-state = go (number_of s (plainly e)) same.number
    where
      go : (m : ℕ) → quick_number_of ws s e ≡ m
          → (unless_refused (quick_number_of ws s e) (quick_after e.fate ws s e) (quick_refused ws s e)).state
          ≡ unless_refused m (after_fate e.fate s (plainly e)) (after_refusal s (plainly e))
      go zero q = rw q (after-state e.fate)
      go (suc m) q = rw q refused-state

  -- and a true summary, or none
  after-good : (f : Fate) → Good (quick_after f ws s e)
  after-good whole w q = rw (some-is _ w q) at (quick-true ws s.working c e.call (length e.lent) e.dock)
  after-good (cut k m) w q = absurd (not-some w q)

  refused-good : Good (quick_refused ws s e)
  refused-good w q = rw (some-is _ w q) at (quick-true ws s.working c e.call (length e.lent) e.dock)

  quick-good : Good (quick_step (some ws) s e)
  quick-good = go (quick_number_of ws s e)
    where
      go : (m : ℕ) → Good (unless_refused m (quick_after e.fate ws s e) (quick_refused ws s e))
      go zero = after-good e.fate
      go (suc m) = refused-good

  -- a cut of it is one of the plain call
  fate-same : (f : Fate) → QuickFate f ws s e → FateMay f s (plainly e)
  fate-same whole q = tt
  fate-same (cut k m) q = rw (same.answer, same.list) at q

-- ---- the other acts

-- a call that is refused changes nothing
step-refused : (s : State) (e : Event) (m : ℕ) → number_of s e ≡ suc m → (step s e).working ≡ s.working
unfolding step
step-refused s e m q = rw q (refused-table e.slice e.call (length e.lent) e.dock s.working (λ z. omega (arith, q, z)))

call-good : (e : Event) (h : Host) → Good h → Good (act_step (call e) h)
call-good e h g = go (number_of h.state e) refl
  where
    go : (m : ℕ) → number_of h.state e ≡ m → Good (host (step h.state e) (unless_refused (number_of h.state e) none h.summary))
    go zero q = rw q (λ w y. absurd (not-some w y))
    go (suc m) q = rw (q, step-refused h.state e m q) g

-- an opening
opens-settled : (m : ℕ) (t : Words) → open_number m t ≡ 0 → settled t ≡ true
unfolding open_number
opens-settled m t e = go (header_ok t) (eqb m (summary_words (nodes t))) (sound t) (settled t) refl e
  where
    go : (a b c d : Bool) → settled t ≡ d
        → first_number (test (not a) 2 ∷ test (not b) 26 ∷ test (not c) 4 ∷ test (not d) 20 ∷ []) ≡ 0 → settled t ≡ true
    go true true true true q e = q
    go true true true false q e = absurd (omega arith)
    go true true false d q e = absurd (omega arith)
    go true false c d q e = absurd (omega arith)
    go false b c d q e = absurd (omega arith)

opens-right : (m : ℕ) (t : Words) → sound t ≡ true → OpensRight m t
unfolding open_number
opens-right m t s = rw (sound-head t s, s) (go (eqb m (summary_words (nodes t))) (settled t))
  where
    go : (b d : Bool) → first_number (test (not true) 2 ∷ test (not b) 26 ∷ test (not true) 4 ∷ test (not d) 20 ∷ [])
        ≡ cond b (cond d 0 20) 26
    go true true = refl
    go true false = refl
    go false d = refl

opens-good : (lent : Words) (h : Host) → Good h → Good (act_step (opens lent) h)
opens-good lent h g = go (open_number (length lent) h.state.working) refl
  where
    words-are : open_number (length lent) h.state.working ≡ 0 → opened_words lent h.state.working ≡ opened h.state.working
    words-are q = unfold opened_words in rw q

    go : (k : ℕ) → open_number (length lent) h.state.working ≡ k
        → Good (host h.state
        (unless_refused (open_number (length lent) h.state.working) (some (opened_words lent h.state.working)) h.summary))
    go zero q =
        let c : Current (opened_words lent h.state.working) h.state.working =
        rw (words-are q) (opened-current h.state.working (opens-settled (length lent) h.state.working q)) in
        rw q (λ w y. rw (some-is _ w y) at c)
    go (suc k) q = rw q g

-- ---- all acts, beside the plain calls

pub record Beside (s : State) (h : Acts) : Type 0 where
  pub state : (run_acts s h).state ≡ run_from s (plain h)
  pub good : Good (run_acts s h)
  pub may : MayFrom s (plain h)

quick-beside : (e : Event) (s u : State) (w : Option Words) (p : History) → u ≡ run_from s p → Good (host u w)
    → MayFrom s p → QuickMay w u e
    → ((quick_step w u e).state ≡ run_from s (plainly e ∷ p)) × Good (quick_step w u e) × MayFrom s (plainly e ∷ p)
unfolding run_from MayFrom
quick-beside e s u none p q g m f = absurd f
quick-beside e s u (some ws) p q g m f =
    let c = g ws refl in
    let may : number_of u (plainly e) ≡ 0 → FateMay e.fate u (plainly e) =
    λ z. fate-same ws u e c e.fate (f ((same ws u e c).number ∙ z)) in
    (quick-state ws u e c ∙ ap (λ (x : State). step x (plainly e)) q, quick-good ws u e c, (m, rw q at may))

pub beside : (s : State) (h : Acts) → MayActs s h → Beside s h
unfolding run_acts MayActs plain MayFrom run_from
beside s [] m = record { state = refl; good = λ w y. absurd (not-some w y); may = tt }
beside s (call e ∷ h) m =
    let b = beside s h m.0 in
    record { state = ap (λ (u : State). step u e) b.state; good = call-good e (run_acts s h) b.good; may = (b.may, rw b.state at m.1) }
beside s (opens lent ∷ h) m = let b =
    beside s h m.0 in record { state = b.state; good = opens-good lent (run_acts s h) b.good; may = b.may }
beside s (quick e ∷ h) m =
    let b = beside s h m.0 in
    let q = quick-beside e s (run_acts s h).state (run_acts s h).summary (plain h) b.state b.good b.may m.1 in
    record { state = q.0; good = q.1; may = q.2 }

before : (s : State) (a : Act) (h : Acts) → MayActs s (a ∷ h) → MayActs s h
unfolding MayActs
before s a h m = m.0

-- what comes next
same-from : (ws t : Words) → Current ws t → SameFrom ws t
same-from ws t c = record {
  listing = λ n low high out. quick-listed ws t c n low high out;
  listed = λ n low high out. quick-list-out ws t c n low high out;
  batches = λ n dock ss lent. (quick-batch n dock ss lent ws t c).same;
}

-- For every sound table and every history of plain calls, openings and quick calls, whole or cut.
pub demand3-quick : Demand3Quick
demand3-quick t q = ((demand3-from t q).0, λ h m. kept h m)
  where
    sound-then : (h : Acts) → MayActs (both t) h → sound (run_acts (both t) h).state.working ≡ true
    sound-then h m = let b = beside (both t) h m in ap (λ (s : State). sound s.working) b.state ∙ (along t q (plain h) b.may).1

    last : (h : Acts) → MayActs (both t) h → LastRight (both t) h
    last [] m = tt
    last (call e ∷ h) m = tt
    last (opens lent ∷ h) m =
        opens-right (length lent) (run_acts (both t) h).state.working (sound-then h (before (both t) (opens lent) h m))
    last (quick e ∷ h) m = λ ws y. same ws (run_acts (both t) h).state e ((beside (both t) h (before (both t) (quick e) h m)).good ws y)

    kept : (h : Acts) → MayActs (both t) h → KeptActs (demand3-from t q).0 (nodes t) (both t) (maps_of t) h
    kept h m =
        let b = beside (both t) h m in
        record {
          right = last h m;
          state = b.state;
          may = b.may;
          kept = (demand3-from t q).1 (plain h) b.may;
          next = λ ws y. same-from ws (run_acts (both t) h).state.working (b.good ws y);
        }
