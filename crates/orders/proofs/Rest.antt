-- Stores that are left to make for a writer, as a routine goes on: one made, some made, all made.
use Rattle.std.proofs.Common.{◌≡◌, ℕ, List, [], ◌∷◌, ◌++◌, length, sym, refl, ap, ◌∙◌}
use mathlib.Core.Option.{Option, none, some}
use Rattle.model.specs.Orders.{Store}
use Rattle.cut_laws.specs.Growing.{closing}
use Rattle.orders.specs.declared.Writer.{Writer}
use Rattle.orders.specs.Desk.{Desk, of, Becomes, Makes, open_at, noted, noted_all, finished, stored_all, Room}
use Rattle.orders.proofs.Steps.{stored_all-append}
use Rattle.orders.proofs.Rooms.{stored-table-length, stored-list-length, room-append, room-cons}

-- of a writer that was f at first: there is room for the stores, and they lead to desk x
pub record Rest (ss : List Store) (f w : Writer) (x : Desk) : Type 0 where
  pub room : Room ss (of w)
  pub leads : stored_all ss (of w) ≡ x
  pub same_table : w.table.ghost_name ≡ f.table.ghost_name
  pub same_list : w.list.ghost_name ≡ f.list.ghost_name

-- a writer with room for the stores has them all left
pub rest-start : {ss : List Store} {w : Writer} → Room ss (of w) → Rest ss w w (stored_all ss (of w))
rest-start r = record { room = r; leads = refl; same_table = refl; same_list = refl }

-- the same stores, written otherwise
pub rest-same : {ss us : List Store} {f w : Writer} {x : Desk} → ss ≡ us → Rest ss f w x → Rest us f w x
rest-same e r = rw (← e) r

-- the same writer, known by its desk and its slices
go-on : {ss : List Store} {f w v : Writer} {d x : Desk} → Becomes w d v → w.table.ghost_name ≡ f.table.ghost_name
    → w.list.ghost_name ≡ f.list.ghost_name
    → Room ss d → stored_all ss d ≡ x → Rest ss f v x
go-on b t l r q = record { room = rw b.is r; leads = rw b.is q; same_table = b.same_table ∙ t; same_list = b.same_list ∙ l }

module _ {s : Store} {ss : List Store} {f w : Writer} {x : Desk} (r : Rest (s ∷ ss) f w x) where
  -- there is room for the first of the stores that are left
  pub rest-one : Room (s ∷ []) (of w)
  rest-one = (room-cons s ss (of w) r.room).0

  -- after the first of the stores that are left, the others are left
  pub rest-next : {v : Writer} → Makes (s ∷ []) w v → Rest ss f v x
  unfolding stored_all
  rest-next b = go-on b r.same_table r.same_list (room-cons s ss (of w) r.room).1 r.leads

module _ (a b : List Store) {f w : Writer} {x : Desk} (r : Rest (a ++ b) f w x) where
  -- there is room for the first part of the stores that are left
  pub rest-first : Room a (of w)
  rest-first = ((room-append a b (of w)).0 r.room).0

  -- after the first part of the stores that are left, the second part is left
  pub rest-after : {v : Writer} → Makes a w v → Rest b f v x
  rest-after g = go-on g r.same_table r.same_list ((room-append a b (of w)).0 r.room).1 (sym (stored_all-append a b (of w)) ∙ r.leads)

-- a writer with no stores left has come to the desk
pub rest-none : {f w : Writer} {x : Desk} → Rest [] f w x → Becomes f x w
unfolding stored_all
rest-none r = record { is = r.leads; same_table = r.same_table; same_list = r.same_list }

-- a writer that makes all stores that are left comes to the desk
pub rest-all : {ss : List Store} {f w : Writer} {x : Desk} → Rest ss f w x → {v : Writer} → Makes ss w v → Becomes f x v
rest-all r b = record { is = b.is ∙ r.leads; same_table = b.same_table ∙ r.same_table; same_list = b.same_list ∙ r.same_list }

-- stores change no length
pub stored-sizes : (ss : List Store) (d : Desk) → (length (stored_all ss d).table ≡ length d.table)
    × (length (stored_all ss d).list ≡ length d.list)
stored-sizes ss d = (stored-table-length ss d, stored-list-length ss d)

-- stores keep the lengths of the table and of the list
pub makes-size : (ss : List Store) {w v : Writer} → Makes ss w v → (length v.table.now ≡ length w.table.now)
    × (length v.list.now ≡ length w.list.now)
makes-size ss {w} b = let n =
    stored-sizes ss (of w) in (ap (λ (d : Desk). length d.table) b.is ∙ n.0, ap (λ (d : Desk). length d.list) b.is ∙ n.1)

-- the writer's table is as long as that of the desk it comes to
pub rest-size : (us : List Store) (e : Desk) {ss : List Store} {f w : Writer} → Rest ss f w (stored_all us e)
    → length w.table.now ≡ length e.table
rest-size us e {ss} {f} {w} r = sym (stored-sizes ss (of w)).0 ∙ ap (λ (d : Desk). length d.table) r.leads ∙ (stored-sizes us e).0

-- the flush at the end changes no word of the table
finished-table : (d : Desk) → (finished d).table ≡ d.table
unfolding finished noted_all noted
finished-table d = go (open_at d)
  where
    go : (o : Option ℕ) → (noted_all (closing o) d).table ≡ d.table
    go none = refl
    go (some l) = refl

-- finishing a list does not change the table
pub finish-table : {w v : Writer} → Becomes w (finished (of w)) v → v.table.now ≡ w.table.now
finish-table {w} b = ap (λ (d : Desk). d.table) b.is ∙ finished-table (of w)

-- two stores made, one after the other
module _ {ss us : List Store} {s u : Store} {f w : Writer} {x : Desk} (q : ss ≡ s ∷ u ∷ us) (r : Rest ss f w x) where
  both : Rest (s ∷ u ∷ us) f w x
  both = rest-same q r

  -- there is room for the first of the stores that are left
  pub two-first : Room (s ∷ []) (of w)
  two-first = rest-one both

  -- after the first of the stores that are left, there is room for the second
  pub two-second : {v : Writer} → Makes (s ∷ []) w v → Room (u ∷ []) (of v)
  two-second g = rest-one (rest-next both g)

  -- after the first two of the stores that are left, the others are left
  pub two-after : {v z : Writer} → Makes (s ∷ []) w v → Makes (u ∷ []) v z → Rest us f z x
  two-after g h = rest-next (rest-next both g) h

-- stores written in another way: room for them, and where they lead
pub room-as : (ss us : List Store) (d : Desk) → ss ≡ us → Room ss d → Room us d
room-as ss us d q r = rw (← q) r

-- a writer after some stores is one after equal stores
pub stored-as : {ss us : List Store} {w v : Writer} → ss ≡ us → Makes us w v → Makes ss w v
stored-as q b = rw q b

-- no store
pub stored-none : {w : Writer} → Makes [] w w
unfolding stored_all
stored-none = record { is = refl; same_table = refl; same_list = refl }

-- some stores, then others
module _ (a b : List Store) {w v : Writer} (q : Makes a w v) where
  -- after the first part, there is room for the second if there was for both
  pub then-room : Room (a ++ b) (of w) → Room b (of v)
  then-room r = rw q.is ((room-append a b (of w)).0 r).1

  -- a writer after the one part, then the other, is one after both
  pub then-stored : {z : Writer} → Makes b v z → Makes (a ++ b) w z
  then-stored g =
      record {
        is = g.is ∙ ap (stored_all b) q.is ∙ sym (stored_all-append a b (of w));
        same_table = g.same_table ∙ q.same_table;
        same_list = g.same_list ∙ q.same_list;
      }
