-- The words after a writing call: those of the nodes that its list stores to are those of the nodes that its stores go to.
use Rattle.std.proofs.Common.{◌≡◌, ℕ, zero, suc, ◌*◌, ◌≤◌, Bool, true, false, ◌&&◌, ◌||◌, eqb, ltb, List, [], ◌∷◌, ◌++◌, length, drop, sym}
use Rattle.std.proofs.Common.{refl, ap, ◌∙◌, arith, length-append, length-drop, le-ltb, lt-ltb}
use Rattle.std.specs.Prelude.{Err}
use Rattle.model.specs.declared.Refusal.{Refusal}
use Rattle.model.specs.Results.{Written, passed}
use Rattle.model.proofs.Numbers.{failed-some, failed-with}
use Rattle.model.specs.Table.{MARK, Words, at, nodes}
use Rattle.model.specs.SoundTest.{elem, sound}
use Rattle.model.specs.Orders.{Store, Order, store, flush, barrier, BAR, encode, apply, orders, list_with}
use Rattle.model.specs.Writes.{Call, stores_of}
use Rattle.model.specs.Refusals.{seventeen_in, orders_of, refusal, written, orders_answered, table_after, list_after}
use Rattle.model.specs.Sentinels.{node_of, stores_to_node, set_anew, slice_number, refusal_with, written_with, table_with, orders_with}
use Rattle.model.specs.Sentinels.{sentinels_with, Leaves}
use Rattle.cut_laws.specs.Inside.{StoresInside}
use Rattle.cut_laws.specs.Unflushed.{stores_in}
use Rattle.cut_laws.proofs.Applying.{counts-length, length-apply}
use Rattle.cut_laws.proofs.FlushRule.{orders-stores}
use Rattle.cut_laws.proofs.Barriers.{barred-stores}
use Rattle.list_laws.proofs.Tools.{double-suc, or-swap}
use Rattle.sentinel_laws.proofs.Slices.{Fits, fits, plain-call}
use Rattle.two_laws.proofs.MapsTwo.{sound-after, nodes-after, accepted-steps}
use Rattle.two_laws.proofs.AcceptedTwo.{accepted-iff}
use Rattle.two_laws.proofs.SearchTwo.{sound-head}
use Rattle.two_laws.proofs.DocksTwo.{list-fits}
use Rattle.cut_laws.proofs.Lent.{header-length, length-encode}
use Rattle.sentinels.proofs.Setting.{anew-same, anew-none}
use Rattle.sentinels.specs.Anew.{named, Asks}

-- ---- an order list from its front

-- an order whose first word is w is a store to node n
abbrev hits : (len w n : ℕ) → Bool
hits len w n = ltb w len && eqb n (node_of w)

named-front : (len a b : ℕ) (ws : Words) (m n : ℕ) → named len (a ∷ b ∷ ws) (suc m) n ≡ hits len a n || named len ws m n
unfolding named
named-front len a b ws zero n = refl
named-front len a b ws (suc m) n =
    ap (λ (j : ℕ). hits len (at (a ∷ b ∷ ws) j) n || named len (a ∷ b ∷ ws) (suc m) n) (double-suc m)
    ∙ ap (λ (z : Bool). hits len (at ws (2 * m)) n || z) (named-front len a b ws m n)
    ∙ or-swap (hits len (at ws (2 * m)) n) (hits len a n) (named len ws m n)

-- a word that no table has
missed : (len w n : ℕ) → len ≤ w → hits len w n ≡ false
missed len w n h = rw (le-ltb w len h)

-- the nodes that the orders of a list store to
named-orders : (len : ℕ) (os : List Order) (rest : Words) (n : ℕ) → len ≤ BAR → StoresInside len (stores_in os)
    → named len (encode os ++ rest) (length os) n ≡ stores_to_node (stores_in os) n
unfolding encode stores_in stores_to_node elem named
named-orders len [] rest n h i = refl
named-orders len (store s ∷ os) rest n h i =
    named-front len s.word s.value (encode os ++ rest) (length os) n
    ∙ ap (λ (b : Bool). (b && eqb n (node_of s.word)) || named len (encode os ++ rest) (length os) n) (lt-ltb s.word len i.0)
    ∙ ap (λ (b : Bool). eqb n (node_of s.word) || b) (named-orders len os rest n h i.1)
named-orders len (flush l ∷ os) rest n h i =
    named-front len MARK l (encode os ++ rest) (length os) n
    ∙ ap (λ (b : Bool). b || named len (encode os ++ rest) (length os) n) (missed len MARK n (omega arith))
    ∙ named-orders len os rest n h i
named-orders len (barrier ∷ os) rest n h i =
    named-front len BAR 0 (encode os ++ rest) (length os) n
    ∙ ap (λ (b : Bool). b || named len (encode os ++ rest) (length os) n) (missed len BAR n h) ∙ named-orders len os rest n h i

-- ---- a call

-- of a list as its dock needs it
call-stores : (x : Call) (dock : ℕ) (t : Words) → stores_in (orders_of x dock t) ≡ stores_of x t
call-stores x dock t = barred-stores dock (orders (stores_of x t)) ∙ orders-stores (stores_of x t)

module _ (x : Call) (lent ws t : Words) (dock : ℕ) (fit : slice_number (seventeen_in x t) (length ws) t ≡ 0) where
  right : Fits (seventeen_in x t) (length ws) t
  right = fits (seventeen_in x t) (length ws) t fit

  -- the table, the list and the answer of the plain call, and the slice as the words were set by them
  module _ (t' lent' ws' : Words) (answer : Written) (e : answer ≡ written x (length lent) dock t)
      (f : t' ≡ table_after x (length lent) dock t) (g : lent' ≡ list_after x lent dock t) where
    -- accepted
    module _ (ok : refusal x (length lent) dock t ≡ 0) where
      count : orders_answered answer ≡ length (orders_of x dock t)
      unfolding written
      count = ap orders_answered e ∙ rw ok (counts-length (orders_of x dock t))

      table : t' ≡ apply (stores_of x t) t
      unfolding table_after
      table = f ∙ rw ok

      list : lent' ≡ list_with (orders_of x dock t) lent
      unfolding list_after
      list = g ∙ rw ok

      long-list : length lent' ≡ length lent
      unfolding list_with
      long-list = ap length list ∙ simp (length-append, length-drop, length-encode) (omega (arith, list-fits x (length lent) dock t ok))

      same-stores : (n : ℕ) → named (length t') lent' (orders_answered answer) n ≡ stores_to_node (stores_of x t) n
      unfolding list_with
      same-stores n =
          let os = orders_of x dock t in
          let a = (accepted-iff x (length lent) dock t).0 ok in
          let i = (accepted-steps x (length lent) dock t a.sound ok).stores-inside in
          ap (λ (u : Words). named (length u) lent' (orders_answered answer) n) table
          ∙ ap (λ (m : ℕ). named m lent' (orders_answered answer) n) (length-apply (stores_of x t) t)
          ∙ ap (λ (u : Words). named (length t) u (orders_answered answer) n) list
          ∙ ap (λ (m : ℕ). named (length t) (list_with os lent) m n) count
          ∙ named-orders (length t) os (drop (2 * length os) lent) n (header-length t a.header).1 (rw (call-stores x dock t) i)
          ∙ ap (λ (ss : List Store). stores_to_node ss n) (call-stores x dock t)

      asks-accepted : Asks t' lent' ws answer
      asks-accepted =
          let s : sound t' ≡ true = rw table (sound-after x (length lent) dock t ok) in
          record {
            header = sound-head t' s;
            sound-if = λ h. s;
            slice = right.long ∙ ap (λ (n : ℕ). 3 * n) (sym (ap nodes table ∙ nodes-after x (length lent) dock t ok));
            room = omega (arith, count, long-list, list-fits x (length lent) dock t ok);
          }

      gives-accepted : ws' ≡ set_anew (named (length t') lent' (orders_answered answer)) t' ws → ws'
          ≡ sentinels_with x ws (length lent) dock t
      unfolding sentinels_with refusal_with
      gives-accepted h = rw (fit, ok)
          (h ∙ anew-same t' ws asks-accepted.slice _ _ (λ n a b. same-stores n)
          ∙ ap (λ (u : Words). set_anew (stores_to_node (stores_of x t)) u ws) table)

    -- refused
    module _ (r : ℕ) (q : refusal x (length lent) dock t ≡ suc r) where
      none-answered : orders_answered answer ≡ 0
      unfolding written
      none-answered = ap orders_answered e ∙ rw q

      table-stays : t' ≡ t
      unfolding table_after
      table-stays = f ∙ rw q

      asks-refused : Asks t' lent' ws answer
      asks-refused =
          record {
            header = rw table-stays right.header;
            sound-if = λ h. absurd (omega (arith, none-answered));
            slice = right.long ∙ ap (λ (u : Words). 3 * nodes u) (sym table-stays);
            room = omega (arith, none-answered);
          }

      gives-refused : ws' ≡ set_anew (named (length t') lent' (orders_answered answer)) t' ws → ws'
          ≡ sentinels_with x ws (length lent) dock t
      unfolding sentinels_with refusal_with named
      gives-refused h = rw (fit, q)
          (h ∙ ap (λ (m : ℕ). set_anew (named (length t') lent' m) t' ws) none-answered
          ∙ anew-none t' ws asks-refused.slice _ (λ n a b. refl))

    -- what setting the words asks, and what the call then leaves
    pub keep-asks : Asks t' lent' ws answer
    keep-asks = go (refusal x (length lent) dock t) refl
      where
        go : (r : ℕ) → refusal x (length lent) dock t ≡ r → Asks t' lent' ws answer
        go zero ok = asks-accepted ok
        go (suc r) q = asks-refused r q

    -- a slice whose words are set anew for the nodes named in the orders is what the call leaves
    pub keep-gives : ws' ≡ set_anew (named (length t') lent' (orders_answered answer)) t' ws → Leaves x dock t t' lent lent' ws ws' answer
    keep-gives h =
        let p = plain-call x (length ws) lent dock t right.long in
        record {
          answered = e ∙ sym p.answer;
          table = f ∙ sym p.table;
          listed = g ∙ sym p.list;
          slice = go (refusal x (length lent) dock t) refl;
        }
      where
        go : (r : ℕ) → refusal x (length lent) dock t ≡ r → ws' ≡ sentinels_with x ws (length lent) dock t
        go zero ok = gives-accepted ok h
        go (suc r) q = gives-refused r q h

-- ---- refused before the plain call

-- a call that is refused for its slice changes neither table, list nor slice
pub keep-not : (x : Call) (lent ws t : Words) (dock : ℕ) (r : Refusal) → passed (slice_number (seventeen_in x t) (length ws) t) ≡ Err r
    → Leaves x dock t t lent lent ws ws (Err r)
unfolding written_with table_with orders_with sentinels_with refusal_with
keep-not x lent ws t dock r = go (slice_number (seventeen_in x t) (length ws) t) refl
  where
    go : (n : ℕ) → slice_number (seventeen_in x t) (length ws) t ≡ n → passed n ≡ Err r → Leaves x dock t t lent lent ws ws (Err r)
    go zero e h = absurd (failed-some 0 h refl)
    go (suc n) e h = record { answered = sym (failed-with (suc n) h) ∙ sym (rw e); table = rw e; listed = rw e; slice = rw e }
