-- Every list of ours on a settled table is accepted, of either collection and for either dock, freeing deletions included.
use Rattle.std.proofs.Common.{◌≡◌, ℕ, true, List, take, ◌∙◌}
use Rattle.std.specs.Prelude.{Ok, None}
use Rattle.model.specs.Table.{Words}
use Rattle.model.specs.SoundTest.{settled}
use Rattle.model.specs.Sound.{Sound}
use Rattle.model.specs.Orders.{Order, apply, store_count}
use Rattle.model.specs.Cuts.{CutImage}
use Rattle.model.specs.Writes.{Call, stores_of}
use Rattle.model.specs.Refusals.{refusal, orders_of}
use Rattle.cut_laws.proofs.Applying.{carry-stores, stores_in-take}
use Rattle.cut_laws.proofs.Images.{cut-prefix}
use Rattle.cut_laws.proofs.Docks.{list-one-line, list-flushed, list-stores, list-apply}
use Rattle.two_laws.proofs.SameTwo.{sound-same, settled-same, settled-sound}
use Rattle.two_laws.proofs.MapsTwo.{Steps, accepted-steps}
use Rattle.model.specs.Judge.{OldOrNew, CountHolds, judged}
use Rattle.judge_laws.proofs.Judged.{judged-iff}

module _ (x : Call) (dock : ℕ) (t : Words) (s : Steps x t) where
  abbrev list : List Order
  list = orders_of x dock t

  -- every image of a cut is what first stores leave
  image-good : (c : ℕ) (m : Words) → CutImage 0 c t list m → Sound m × OldOrNew x t m
  image-good c m i =
      let (j, h, e) = cut-prefix list t (list-one-line dock (stores_of x t)) c m i in
      let q : m ≡ apply (take (store_count (take j list)) (stores_of x t)) t =
      e ∙ rw (carry-stores (take j list) t, stores_in-take j list, list-stores dock (stores_of x t)) in
      rw q ((sound-same _).0 (s.part-sound (store_count (take j list))), s.part-map (store_count (take j list)))

  count-holds : (c : ℕ) → CountHolds x t list c
  count-holds c =
      record {
        one-line = list-one-line dock (stores_of x t) c;
        images = image-good c;
        whole = λ e. let a = list-apply dock (stores_of x t) t in
            record {
              all-flushed = list-flushed dock (stores_of x t);
              settles = rw a ((settled-same _).0 s.all-settled);
              new-map = rw a s.all-map;
            };
      }

-- Each list that an accepted call gives on a settled table is accepted.
pub ours-accepted : (x : Call) (words dock : ℕ) (t : Words) → settled t ≡ true → refusal x words dock t ≡ 0
    → judged x t (orders_of x dock t) ≡ Ok None
ours-accepted x words dock t s a =
    let k = accepted-steps x words dock t (settled-sound t s) a in
    (judged-iff x t (orders_of x dock t) (Ok None) s).1 (λ c h. count-holds x dock t k c)
