-- The call of an action and the map after it, from the action that its number gives.
use Rattle.std.proofs.Common.{◌≡◌, ℕ, ◌+◌, ◌-◌, ◌%◌, Bool, true, false, cond, set, refl, arith}
use Rattle.model.specs.Writes.{insertion, deletion}
use Rattle.model.specs.Scripts.{inserts, action_key, call_of}
use Rattle.short_scripts.specs.Held.{Held, changed}
use Rattle.short_scripts.specs.Actions.{action_of}
use Rattle.short_scripts.specs.declared.Action.{Action}
use Rattle.short_scripts.specs.declared.Action.TheVariants.{Insert, Delete}

-- ---- the action's call, and the map after it

module _ (n k : ℕ) (a : Action) (e : a ≡ action_of n) where
  inserts-as : a ≡ Insert k → (inserts n ≡ true) × (k ≡ action_key n)
  inserts-as f = go (inserts n) e
    where
      go : (t : Bool) → a ≡ cond t (Insert (action_key n)) (Delete (action_key n)) → (t ≡ true) × (k ≡ action_key n)
      go true g = (refl, cc)
      go false g = let z : ◌≡◌ {A = ℕ} 0 1 = cc in absurd (omega arith)

  deletes-as : a ≡ Delete k → (inserts n ≡ false) × (k ≡ action_key n)
  deletes-as f = go (inserts n) e
    where
      go : (t : Bool) → a ≡ cond t (Insert (action_key n)) (Delete (action_key n)) → (t ≡ false) × (k ≡ action_key n)
      go true g = let z : ◌≡◌ {A = ℕ} 0 1 = cc in absurd (omega arith)
      go false g = (refl, cc)

  pub call-inserts : a ≡ Insert k → insertion 1 k (10 + k) 0 ≡ call_of n
  unfolding call_of
  call-inserts f = let u = inserts-as f in rw (u.0, u.1)

  pub call-deletes : a ≡ Delete k → deletion 1 k ≡ call_of n
  unfolding call_of
  call-deletes f = let u = deletes-as f in rw (u.0, u.1)

  -- the flag of the key that the action's number names, set to whether the action inserts
  set-as : (h : Held) (b : Bool) → (inserts n ≡ b) × (k ≡ action_key n) → set h (k - 1) b ≡ changed h n
  unfolding changed
  set-as h b u = let m : k - 1 ≡ n % 3 = omega (arith, u.1) in rw (u.0, m)

  pub change-inserts : (h : Held) → a ≡ Insert k → set h (k - 1) true ≡ changed h n
  change-inserts h f = set-as h true (inserts-as f)

  pub change-deletes : (h : Held) → a ≡ Delete k → set h (k - 1) false ≡ changed h n
  change-deletes h f = set-as h false (deletes-as f)
