-- What a level does over a list of stores is its history over the first parts of the list.
use Rattle.std.proofs.Common.{◌≡◌, ℕ, suc, ◌-◌, ◌<◌, ◌≤◌, Bool, true, false, ltb, List, [], ◌∷◌, ◌++◌, length, take, refl, ap, ◌∙◌, inl}
use Rattle.std.proofs.Common.{inr, append-nil, arith, take_all, ltb-false, ltb-true}
use lib.Seq.{take-nil}
use Rattle.model.specs.Table.{Words}
use Rattle.model.specs.Slots.{View}
use Rattle.model.specs.Orders.{Store, apply}
use Rattle.list_laws.proofs.Lists.{take-append}
use Rattle.word_laws.proofs.Stores.{do_store}
use Rattle.cut_laws.proofs.Applying.{apply-append}
use Rattle.tree_laws.proofs.Levels.{Orderly}
use Rattle.step_laws.proofs.Rowwise.{OnRow, Same, Lasts, same-refl, same-sym, same-trans, same-lasts, same-stands, same-comes}
use Rattle.step_laws.proofs.LevelCourses.{QuietAt, Quiet, Turn, MayTurn, Skip, whole}
use Rattle.reader_laws.proofs.Histories.{History}
use Rattle.reader_laws.proofs.Skips.{Skipping}

-- the first parts of a list around one of its stores
module _ (t : Words) (ss before : List Store) (it : Store) (after : List Store) (shape : ss ≡ before ++ it ∷ after) where
  pub take-early : (j : ℕ) → j ≤ length before → take j ss ≡ take j before
  take-early j h =
      let e : j - length before ≡ 0 = omega arith in
      ap (take j) shape ∙ take-append j before (it ∷ after) ∙ ap (λ (x : ℕ). take j before ++ take x (it ∷ after)) e
      ∙ append-nil (take j before)

  pub take-late : (j : ℕ) → length before < j → apply (take j ss) t
      ≡ apply (take (j - suc (length before)) after) (do_store it (apply before t))
  unfolding apply
  take-late j h =
      let e : j - length before ≡ suc (j - suc (length before)) = omega arith in
      ap (λ (x : List Store). apply x t)
      (ap (take j) shape ∙ take-append j before (it ∷ after)
      ∙ ap (λ (x : List Store). x ++ take (j - length before) (it ∷ after)) (take_all j before (omega arith))
      ∙ ap (λ (x : ℕ). before ++ take x (it ∷ after)) e)
      ∙ apply-append before (it ∷ take (j - suc (length before)) after) t

  pub take-before : take (length before) ss ≡ before
  take-before = take-early (length before) (omega arith) ∙ take_all (length before) before (omega arith)

module _ (see : Words → View) (t : Words) (ss : List Store) (orderly : (j : ℕ) → Orderly (see (apply (take j ss) t))) (l : ℕ) where
  abbrev w : ℕ → View
  w j = see (apply (take j ss) t)

  quiet-history : Quiet see l t ss → History (λ (j : ℕ). see (apply (take j ss) t)) l
  quiet-history q = record {
    turn = 0;
    early = λ i j h g. absurd (omega arith);
    straight = λ i h. absurd (omega arith);
    crosses = λ i j k n h g s. absurd (omega arith);
    late = λ i j h g. between i j;
    lasts = λ i j h. same-lasts l (w i) (w j) (between i j);
    stays = λ i j n h r. (between i j).there n r;
  }
    where
      between : (i j : ℕ) → Same l (w i) (w j)
      between i j = same-trans l (w i) (see t) (w j) (same-sym l (see t) (w i) (q i).same) (q j).same

  module _ (u : Turn see l t ss) where
    abbrev T : ℕ
    T = suc (length u.before)

    abbrev t₁ : Words
    t₁ = apply u.before t

    abbrev t₂ : Words
    t₂ = do_store u.it t₁

    early-at : (j : ℕ) → j < T → QuietAt see l t (apply (take j ss) t)
    early-at j h = rw (take-early t ss u.before u.it u.after u.shape j (omega arith)) (u.quiet j)

    late-at : (j : ℕ) → T ≤ j → Same l (see t₂) (w j)
    late-at j h = rw (take-late t ss u.before u.it u.after u.shape j h) (u.still (j - T))

    orderly₁ : Orderly (see t₁)
    orderly₁ = rw (take-before t ss u.before u.it u.after u.shape) at (orderly (length u.before))

    orderly₂ : Orderly (see t₂)
    unfolding apply
    orderly₂ = let e : T - T ≡ 0 = omega arith in rw (take-late t ss u.before u.it u.after u.shape T (omega arith), e) at (orderly T)

    early-same : (i j : ℕ) → i < T → j < T → Same l (w i) (w j)
    early-same i j g h = same-trans l (w i) (see t) (w j) (same-sym l (see t) (w i) (early-at i g).same) (early-at j h).same

    late-same : (i j : ℕ) → T ≤ i → T ≤ j → Same l (w i) (w j)
    late-same i j g h = same-trans l (w i) (see t₂) (w j) (same-sym l (see t₂) (w i) (late-at i g)) (late-at j h)

    -- from an early moment to the table before the turn
    up-to : (i : ℕ) → i < T → Same l (w i) (see t₁)
    up-to i g = same-trans l (w i) (see t) (see t₁) (same-sym l (see t) (w i) (early-at i g).same)
        (whole (QuietAt see l t) u.before t u.quiet).same

    over : (i j : ℕ) → i < T → T ≤ j → Lasts l (w i) (w j)
    over i j g h = record {
      level = λ n r. ((late-at j h).there n (u.crosses.row n ((up-to i g).there n r))).1;
      fence = λ n r. let q =
          (up-to i g).there n r in (late-at j h).fence n (u.crosses.row n q) ∙ u.crosses.fence n q ∙ (up-to i g).fence n r;
    }

    lasting : (i j : ℕ) → i ≤ j → Lasts l (w i) (w j)
    lasting i j h = go (ltb i T) (ltb j T) refl refl
      where
        go : (a b : Bool) → ltb i T ≡ a → ltb j T ≡ b → Lasts l (w i) (w j)
        go a true p q = let y = ltb-true j T q in same-lasts l (w i) (w j) (early-same i j (omega arith) y)
        go true false p q = over i j (ltb-true i T p) (ltb-false j T q)
        go false false p q = same-lasts l (w i) (w j) (late-same i j (ltb-false i T p) (ltb-false j T q))

    staying : (i j n : ℕ) → i ≤ j → OnRow (w i) l n → OnRow (w j) l n
    staying i j n h r = go (ltb i T) (ltb j T) refl refl
      where
        go : (a b : Bool) → ltb i T ≡ a → ltb j T ≡ b → OnRow (w j) l n
        go a true p q = let y = ltb-true j T q in (early-same i j (omega arith) y).there n r
        go true false p q = (late-at j (ltb-false j T q)).there n (u.crosses.row n ((up-to i (ltb-true i T p)).there n r))
        go false false p q = (late-same i j (ltb-false i T p) (ltb-false j T q)).there n r

    turn-history : History (λ (j : ℕ). see (apply (take j ss) t)) l
    turn-history = record {
      turn = T;
      early = λ i j h g. early-same i j (omega arith) g;
      straight = λ i h. (early-at i h).straight;
      crosses = λ i j k n g h s. same-comes (see t₂) (w j) orderly₂ (orderly j) l (late-at j h) k n
          (u.crosses.leads k n (same-stands (w i) (see t₁) (orderly i) orderly₁ l (up-to i g) k n s));
      late = λ i j h g. late-same i j h (omega arith);
      lasts = lasting;
      stays = staying;
    }

  pub stores-history : MayTurn see l t ss → History (λ (j : ℕ). see (apply (take j ss) t)) l
  stores-history (inl q) = quiet-history q
  stores-history (inr u) = turn-history u

  -- a level of which a node is passed over
  module _ (u : Skip see l t ss) where
    abbrev t₃ : Words
    t₃ = do_store u.it (apply u.before t)

    same-early : (i : ℕ) → i ≤ length u.before → Same l (see t) (w i)
    same-early i g = rw (take-early t ss u.before u.it [] u.shape i g) (u.still i)

    end : (j : ℕ) → length u.before < j → apply (take j ss) t ≡ t₃
    unfolding apply
    end j h = take-late t ss u.before u.it [] u.shape j h
        ∙ ap (λ (x : List Store). apply x t₃) (take-nil {A = Store} (j - suc (length u.before)))

    pub stores-skip : Skipping (λ (j : ℕ). see (apply (take j ss) t)) l
    stores-skip = record {
      a = u.a;
      b = u.b;
      last = length u.before;
      early = λ i j g h. same-trans l (w i) (see t) (w j) (same-sym l (see t) (w i) (same-early i g)) (same-early j h);
      skips = λ j h. rw (take-before t ss u.before u.it [] u.shape, end j h) u.skips;
      late = λ i j g h. rw (end i g, end j h) (same-refl l (see t₃));
    }
