-- The test of a pointer, a condition at a time.
use Rattle.std.proofs.Common.{◌≡◌, ℕ, ◌<◌, Bool, true, false, ◌&&◌, sym, ap, ◌∙◌, arith}
use Rattle.model.specs.Slots.{RECORDINGS, recording_of, class_of, recording_ok, class_ok, pointer_ok}
use Rattle.list_laws.proofs.Recordings.{recording-below}

pub is-below : (p r : ℕ) → r ≡ recording_of p → r < RECORDINGS
is-below p r e = omega (arith, recording-below p)

module _ (p r : ℕ) (e : r ≡ recording_of p) (b : Bool) (q : b ≡ recording_ok r) where
  pub number-wrong : b ≡ false → false ≡ pointer_ok p
  unfolding pointer_ok
  number-wrong n = ap (λ (x : Bool). x && class_ok (class_of p)) (sym n ∙ q ∙ ap recording_ok e)

  pub number-right : b ≡ true → (c : ℕ) → c ≡ class_of p → class_ok c ≡ pointer_ok p
  unfolding pointer_ok
  number-right y c f = ap class_ok f ∙ ap (λ (x : Bool). x && class_ok (class_of p)) (sym y ∙ q ∙ ap recording_ok e)
