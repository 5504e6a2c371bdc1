-- The repair of a sound table, by what the check said is left: its stores, and what the shifts need of the nodes.
use Rattle.std.proofs.Common.{◌≡◌, ℕ, Bool, true, false, List, [], ◌++◌, ap, ◌∙◌}
use mathlib.Core.Option.{some}
use Rattle.model.specs.Table.{Words, has_node}
use Rattle.model.specs.SoundTest.{Leftover, nothing, hidden_in, missing_in, both_in, leftover_all, sound}
use Rattle.model.specs.Orders.{Store, apply}
use Rattle.model.specs.Writes.{close_at, cut_off, attach, repair_of, repair_stores}
use Rattle.two_laws.proofs.PartsTwo.{Plain}
use Rattle.two_laws.proofs.MendTwo.{hidden-there, missing-plain, both-there, both-closed}
use Rattle.sound.specs.declared.Leftover as said
use Rattle.sound.specs.declared.Leftover.TheVariants.{Nothing, HiddenIn, MissingIn, BothIn}
use Rattle.sound.specs.Checked.{meant}
use Rattle.orders.specs.declared.Writer.{Writer}
use Rattle.orders.specs.Desk.{of, Makes, Room}
use Rattle.orders.proofs.Rest.{room-as, stored-as}
use Rattle.write.proofs.Parts.{part-table, part-room, part-stored}

module _ (t : Words) (l : said.Leftover) (s : sound t ≡ true) (e : leftover_all t ≡ some (meant l)) where
  left-as : (y : Leftover) → meant l ≡ y → leftover_all t ≡ some y
  left-as y q = e ∙ ap some q

  stores-as : (y : Leftover) → meant l ≡ y → repair_stores t ≡ repair_of t (some y)
  unfolding repair_stores
  stores-as y q = ap (repair_of t) (left-as y q)

  pub nothing-stores : l ≡ Nothing → repair_stores t ≡ []
  unfolding repair_of
  nothing-stores q = stores-as nothing (ap meant q)

  module _ (x : ℕ) (q : l ≡ HiddenIn x) where
    pub close-stores : repair_stores t ≡ close_at t x
    unfolding repair_of
    close-stores = stores-as (hidden_in x) (ap meant q)

    pub close-there : has_node t x ≡ true
    close-there = hidden-there t s x (left-as (hidden_in x) (ap meant q))

  module _ (p a : ℕ) (b : Bool) (q : l ≡ MissingIn p a b) where
    pub attach-stores : b ≡ false → repair_stores t ≡ attach t p a
    unfolding repair_of
    attach-stores h = stores-as (missing_in p a false) (ap meant q ∙ ap (missing_in p a) h)

    pub cut-attach-stores : b ≡ true → repair_stores t ≡ cut_off t a ++ attach t p a
    unfolding repair_of
    cut-attach-stores h = stores-as (missing_in p a true) (ap meant q ∙ ap (missing_in p a) h)

    pub attach-plain : Plain t p × Plain t a
    attach-plain = missing-plain t s p a b (left-as (missing_in p a b) (ap meant q))

  module _ (p a : ℕ) (q : l ≡ BothIn p a) where
    both : leftover_all t ≡ some (both_in p a)
    both = left-as (both_in p a) (ap meant q)

    pub both-stores : repair_stores t ≡ close_at t p ++ attach (apply (close_at t p) t) p a
    unfolding repair_of
    both-stores = stores-as (both_in p a) (ap meant q)

    pub parent-there : has_node t p ≡ true
    parent-there = both-there t s p a both

-- both: the second part, on what the first part left
module _ (w : Writer) (l : said.Leftover) (s : sound w.table.now ≡ true) (e : leftover_all w.table.now ≡ some (meant l)) (p a : ℕ)
    (q : l ≡ BothIn p a) {v : Writer}
    (g : Makes (close_at w.table.now p) w v) where
  abbrev attaching : Words → List Store
  attaching u = attach u p a

  pub closed-plain : Plain v.table.now p
  closed-plain = rw (part-table (close_at w.table.now p) attaching g) (both-closed w.table.now s p a (both w.table.now l s e p a q))

  pub closed-room : Room (repair_stores w.table.now) (of w) → Room (attach v.table.now p a) (of v)
  closed-room r = part-room (close_at w.table.now p) attaching g (room-as _ _ (of w) (both-stores w.table.now l s e p a q) r)

  pub closed-attached : {z : Writer} → Makes (attach v.table.now p a) v z → Makes (repair_stores w.table.now) w z
  closed-attached h = stored-as (both-stores w.table.now l s e p a q) (part-stored (close_at w.table.now p) attaching g h)
