-- The insertion or deletion that is wanted: whether it would be refused, and its new maps, on a table that passed the tests before.
use Rattle.std.proofs.Common.{◌≡◌, ℕ, zero, suc, ◌<◌, ◌≤◌, Bool, true, false, ◌≢◌, length, sym, refl, ap, ◌∙◌, arith}
use mathlib.Core.Bool.{false≢true}
use Rattle.std.specs.Prelude.{is_err, Option as Known, Some, None}
use Rattle.model.specs.Results.{Outcome, passed}
use Rattle.model.specs.Table.{Words, at, root_word}
use Rattle.model.specs.Slots.{RECORDINGS, pointer_of, view_from}
use Rattle.model.specs.Reached.{mapping, map_of, maps_of, reached_all}
use Rattle.model.specs.SoundTest.{nothing, settled}
use Rattle.model.specs.Writes.{insertion, deletion}
use Rattle.model.specs.Refusals.{has_key, refusal}
use Rattle.model.specs.Ledger.{enter, leave, change}
use Rattle.list_laws.proofs.Recordings.{recording-iff, class-iff}
use Rattle.two_laws.proofs.Arrange.{sound-tree, left-all, settled-tree}
use Rattle.two_laws.proofs.SameTwo.{settled-sound}
use Rattle.two_laws.proofs.AcceptedTwo.{Accepted, accepted-iff}
use Rattle.two_laws.proofs.JudgedTwo.{map-later}
use Rattle.reach.specs.declared.Run.{Run}
use Rattle.reach.specs.Runs.{full_run}
use Rattle.sound.specs.declared.Leftover.TheVariants as left
use Rattle.sound.proofs.JudgeLaws.{SoundWith}
use Rattle.write.proofs.Judging.{Passed, ready-number}
use Rattle.write.proofs.Rooted.{root-key}
use Rattle.insert.specs.Tests.{number_for}
use Rattle.insert.proofs.Judging.{run-later, insert-number}
use Rattle.compare.specs.Pointers.{with_pointer}
use Rattle.compare.proofs.Maps.{with-enters}
use Rattle.judge.specs.declared.Start.{Start}
use Rattle.judge.specs.Wanted.{wanted, Suits}
use Rattle.judge.proofs.Rest.{on-same}
use Rattle.judge.proofs.Answers.{Before21}

settled-with : (t : Words) (m : ℕ) → settled t ≡ true → m ≡ length (reached_all t) → SoundWith t left.Nothing m
settled-with t m s e =
    let u = sound-tree t (settled-sound t s) in
    record {
      is-sound = settled-sound t s;
      leftover-is = left-all u.word u.others t nothing u.arranged (settled-tree u.word u.others t u.arranged s);
      reached-are = e;
    }

pub suits : {n : ℕ} {t list : Words} {out : ℕ} {m : Start} → Before21 n t list out m → (k : ℕ) (x : Known ℕ)
    → Suits (record { collection = n; key = k; pointer = x }) t
suits b k x = record { settles = b.settles; collection = b.collection }

-- ---- an insertion

module _ (n k r c : ℕ) (t list : Words) (out : ℕ) (m : Start) (b : Before21 n t list out m) where
  ready : Passed (insertion n k r c) 2560 0 t left.Nothing m.reached
  ready = record {
    found = settled-with t m.reached b.settles b.reached;
    collection = b.collection;
    dock-ok = omega arith;
    long = omega arith;
  }

  module _ (root : ℕ) (run : Run) {j : Outcome} (e : root ≡ at t (root_word n)) (q : run ≡ full_run (view_from t root) k None)
      (d : j ≡ passed (number_for n t k r c run)) where
    judged-as : is_err (passed (refusal (insertion n k r c) 2560 0 t)) ≡ is_err j
    judged-as = ap is_err (insert-number ready (run-later ready refl e q) d)

    pub insert-refused : is_err j ≡ true → refusal (insertion n k r c) 2560 0 t ≢ 0
    insert-refused z y = false≢true (ap (λ (m : ℕ). is_err (passed m)) (sym y) ∙ judged-as ∙ z)

    pub insert-accepted : is_err j ≡ false → refusal (insertion n k r c) 2560 0 t ≡ 0
    insert-accepted z = go (refusal (insertion n k r c) 2560 0 t) (judged-as ∙ z)
      where
        go : (m : ℕ) → is_err (passed m) ≡ false → m ≡ 0
        go zero y = refl
        go (suc m) y = absurd (false≢true (sym y))

  module _ (a : refusal (insertion n k r c) 2560 0 t ≡ 0) where
    allowed : Accepted (insertion n k r c) 2560 0 t
    allowed = (accepted-iff (insertion n k r c) 2560 0 t).0 a

    pub insert-low : (r < RECORDINGS) × (c ≤ 2)
    insert-low = (((recording-iff r).0 allowed.allows.recording-ok).1, (class-iff c).0 allowed.allows.class-ok)

    no-key : has_key k (map_of n t) ≡ false
    no-key = rw (map-later n t (settled-sound t b.settles) b.collection) at allowed.allows.no-key

    pub insert-wanted : (x : ℕ) → x ≡ pointer_of r c → wanted (record { collection = n; key = k; pointer = Some x }) t
        ≡ change (insertion n k r c) (maps_of t)
    unfolding wanted
    insert-wanted x e = rw e
        (on-same n t (with_pointer k (Some (pointer_of r c))) (enter k (pointer_of r c)) b.collection
        (with-enters k (pointer_of r c) (map_of n t) no-key))

-- ---- a deletion

module _ (n k : ℕ) (t list : Words) (out : ℕ) (m : Start) (b : Before21 n t list out m) where
  gone : Passed (deletion n k) 2560 0 t left.Nothing m.reached
  gone = record {
    found = settled-with t m.reached b.settles b.reached;
    collection = b.collection;
    dock-ok = omega arith;
    long = omega arith;
  }

  module _ (root : ℕ) (e : root ≡ at t (root_word n)) (h : Bool) (q : h ≡ has_key k (mapping (view_from t root))) where
    has : h ≡ has_key k (map_of n t)
    has = root-key n t root e h k q

    pub delete-refused : h ≡ false → refusal (deletion n k) 2560 0 t ≢ 0
    delete-refused z y = let d : ◌≡◌ {A = ℕ} 9 0 = sym (ready-number (deletion n k) 2560 0 t gone ∙ rw (sym has ∙ z)) ∙ y in omega arith

    pub delete-accepted : h ≡ true → refusal (deletion n k) 2560 0 t ≡ 0
    delete-accepted z = ready-number (deletion n k) 2560 0 t gone ∙ rw (sym has ∙ z)

  pub delete-wanted : wanted (record { collection = n; key = k; pointer = None }) t ≡ change (deletion n k) (maps_of t)
  unfolding wanted with_pointer
  delete-wanted = on-same n t (with_pointer k None) (leave k) b.collection refl
