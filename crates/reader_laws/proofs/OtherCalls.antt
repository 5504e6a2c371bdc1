-- Request 10 of the other calls on a settled table: a class change as an insertion or a deletion; a repair has no orders then, so that the
-- search
-- by looks is the search, neighbour included.
use Rattle.std.proofs.Common.{◌≡◌, ℕ, zero, suc, ◌⊎◌, List, [], take, ap, ◌∙◌}
use lib.Seq.{take-nil}
use Rattle.model.specs.Table.{Words}
use Rattle.model.specs.Search.{search}
use Rattle.model.specs.Sound.{Settled}
use Rattle.model.specs.Orders.{Store, Order, carry, orders, barred, with_barriers}
use Rattle.model.specs.Writes.{class_change, repair, stores_of}
use Rattle.model.specs.Refusals.{refusal, orders_of, table_after}
use Rattle.model.specs.Looks.{search_looks, Forward, during, without_next}
use Rattle.cut_laws.proofs.Applying.{carry-nil}
use Rattle.two_laws.proofs.CallsTwo.{settled-repair}
use Rattle.two_laws.proofs.SameTwo.{settled-same}
use Rattle.reader_laws.proofs.Still.{looks-still}
use Rattle.reader_laws.proofs.Readers.{readers}

-- A class change of code j in collection m.
pub class-readers : (m j c words dock : ℕ) (t : Words) → Settled t → refusal (class_change m j c) words dock t ≡ 0
    → (n k : ℕ) (moment : ℕ → ℕ) → Forward moment
    → (let answer = without_next (search_looks n (during (orders_of (class_change m j c) dock t) t moment) k) in
    (answer ≡ without_next (search n t k)) ⊎ (answer ≡ without_next (search n (table_after (class_change m j c) words dock t) k)))
class-readers m j c words dock t h ok n k moment f = readers (class_change m j c) words dock t h ok n k moment f

-- the orders of no store
no-orders : (dock : ℕ) (ss : List Store) → ss ≡ [] → barred dock (orders ss) ≡ []
unfolding orders with_barriers
no-orders zero ss e = ap orders e
no-orders (suc d) ss e = ap (λ (us : List Store). with_barriers (orders us)) e

-- A repair of a settled table.
pub repair-readers :
    (dock : ℕ) (t : Words) → Settled t → (n k : ℕ) (moment : ℕ → ℕ)
    → search_looks n (during (orders_of repair dock t) t moment) k ≡ search n t k
unfolding stores_of
repair-readers dock t h n k moment =
    let e : orders_of repair dock t ≡ [] = no-orders dock (stores_of repair t) (settled-repair t ((settled-same t).1 h)) in
    let still : (i : ℕ) → during (orders_of repair dock t) t moment i ≡ t =
    λ i. ap (λ (os : List Order). carry (take (moment i) os) t) e
    ∙ ap (λ (os : List Order). carry os t) (take-nil {A = Order} (moment i)) ∙ carry-nil t in
    (λ i. search_looks n (λ (j : ℕ). still j i) k) ∙ looks-still n t k
