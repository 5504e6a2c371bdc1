-- A copy of which each word was read twice around one moment of a call is the table of that moment: its searches answer as before the call,
-- or
-- as after it.
use Rattle.std.proofs.Common.{◌≡◌, ℕ, ◌<◌, ◌⊎◌, take, sym, ◌∙◌}
use mathlib.Core.Logic.{⊎_map}
use Rattle.model.specs.declared.Answer.TheVariants.{Refused}
use Rattle.model.specs.Table.{Words, at}
use Rattle.model.specs.Slots.{node_view}
use Rattle.model.specs.Search.{search}
use Rattle.model.specs.Sound.{Settled}
use Rattle.model.specs.Writes.{Call}
use Rattle.model.specs.Refusals.{refusal, orders_of}
use Rattle.cut_laws.proofs.Applying.{length-carry}
use Rattle.model.specs.Returns.{table_at, OfNode, ReadTwice, CopyRight}
use Rattle.reader_laws.proofs.Returns.{moment-right, no-return}
use Rattle.reader_laws.proofs.Copies.{copy-answers}

-- a word read twice is that of the moment between
read-word : (x : Call) (words dock : ℕ) (t : Words) → Settled t → refusal x words dock t ≡ 0 → (b : ℕ) (u : Words) (w : ℕ)
    → ReadTwice x dock t b u w → at u w ≡ at (table_at x dock t b) w
read-word x words dock t h ok b u w r =
    sym r.first-value ∙ sym
    (no-return x words dock t h ok r.sighted r.first b r.second w r.early r.before r.after r.in-sight
    (r.first-value ∙ sym r.second-value))

pub copy-right : CopyRight
copy-right x words dock t u h ok long b header nodes =
    ⊎_map (λ f n k. ⊎_map (λ e. e ∙ f n k) (λ e. e) (answers n k)) (λ f n k. ⊎_map (λ e. e ∙ f n k) (λ e. e) (answers n k))
    (moment-right x words dock t ok b)
  where
    v : Words
    v = table_at x dock t b

    word : (w : ℕ) → ReadTwice x dock t b u w → at u w ≡ at v w
    word w r = read-word x words dock t h ok b u w r

    some-nodes : (m : ℕ) → ((w : ℕ) → OfNode m w → at u w ≡ at v w) ⊎ (15 < (node_view u m).level)
    some-nodes m = ⊎_map (λ f w o. word w (f w o)) (λ z. z) (nodes m)

    answers : (n k : ℕ) → (search n u k ≡ search n v k) ⊎ (search n u k ≡ Refused 3)
    answers n k = copy-answers v u (long ∙ sym (length-carry (take b (orders_of x dock t)) t)) (λ w l. word w (header w l)) some-nodes n k
