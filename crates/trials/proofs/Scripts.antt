-- Request 11, computed: what the actions are, single scripts and their numbers, words that are no script, tables held to a map.
use Rattle.std.proofs.Common.{◌≡◌, ℕ, true, false, [], ◌∷◌, map, refl}
use Rattle.std.specs.Prelude.{Ok}
use Rattle.model.specs.Results.{refused_with}
use Rattle.model.specs.Table.{MARK, Words, empty}
use Rattle.model.specs.Slots.{slot}
use Rattle.model.specs.Writes.{insertion, deletion}
use Rattle.model.specs.Refusals.{table_after}
use Rattle.model.specs.Scripts.{call_of, before, script_of, script_words, script_answer, script_out, script_number, agrees, along}
use Rattle.model.specs.Scripts.{table_count, bad_count}
use Rattle.model.proofs.Everything.{everything}

-- ---- the six actions

pub actions-are : map call_of (0 ∷ 1 ∷ 2 ∷ 3 ∷ 4 ∷ 5 ∷ [])
    ≡ insertion 1 1 11 0 ∷ insertion 1 2 12 0 ∷ insertion 1 3 13 0 ∷ deletion 1 1 ∷ deletion 1 2 ∷ deletion 1 3 ∷ []
unfolding everything
actions-are = refl

-- ---- scripts and numbers

-- the first script of each length, the last one of all, and one between: 1000 is 259 and 741, which is 3 · 216 + 2 · 36 + 3 · 6 + 3
pub record ScriptsAre : Type 0 where
  pub first : map (λ (n : ℕ). script_words (script_of n)) (0 ∷ 1 ∷ 7 ∷ 43 ∷ 259 ∷ [])
      ≡ (0 ∷ 0 ∷ 0 ∷ 0 ∷ 0 ∷ []) ∷ (1 ∷ 0 ∷ 0 ∷ 0 ∷ 0 ∷ []) ∷ (2 ∷ 0 ∷ 0 ∷ 0 ∷ 0 ∷ []) ∷ (3 ∷ 0 ∷ 0 ∷ 0 ∷ 0 ∷ [])
      ∷ (4 ∷ 0 ∷ 0 ∷ 0 ∷ 0 ∷ []) ∷ []
  pub last : script_words (script_of 1554) ≡ 4 ∷ 5 ∷ 5 ∷ 5 ∷ 5 ∷ []
  pub thousand : script_words (script_of 1000) ≡ 4 ∷ 3 ∷ 2 ∷ 3 ∷ 3 ∷ []
  pub back : script_number (4 ∷ 3 ∷ 2 ∷ 3 ∷ 3 ∷ []) ≡ Ok 1000
  pub delete-after : before (2 ∷ []) (3 ∷ []) ≡ true
  pub short-first : before (5 ∷ []) (0 ∷ 0 ∷ []) ≡ true

pub scripts-are : ScriptsAre
unfolding everything
scripts-are = record { first = refl; last = refl; thousand = refl; back = refl; delete-after = refl; short-first = refl }

-- ---- 22 and 23; a lent word stays

pub record Refuses : Type 0 where
  pub above : (script_answer 1555 ≡ refused_with 22) × (script_out 1555 (7 ∷ 8 ∷ 9 ∷ 10 ∷ 11 ∷ []) ≡ 7 ∷ 8 ∷ 9 ∷ 10 ∷ 11 ∷ [])
  pub within : script_answer 1554 ≡ Ok tt
  pub long : script_number (5 ∷ 0 ∷ 0 ∷ 0 ∷ 0 ∷ []) ≡ refused_with 23
  pub far : script_number (MARK ∷ 0 ∷ 0 ∷ 0 ∷ 0 ∷ []) ≡ refused_with 23
  pub no-action : script_number (2 ∷ 0 ∷ 6 ∷ 0 ∷ 0 ∷ []) ≡ refused_with 23
  pub past : script_number (2 ∷ 0 ∷ 5 ∷ 0 ∷ 1 ∷ []) ≡ refused_with 23

pub refuses : Refuses
unfolding everything
refuses = record { above = (refl, refl); within = refl; long = refl; far = refl; no-action = refl; past = refl }

-- ---- a table held to a map

-- 1 and 3 entered
unfoldable pub one_and_three : Words
one_and_three = table_after (call_of 2) 2560 0 (table_after (call_of 0) 2560 0 (empty 4))

pub record Disagree : Type 0 where
  pub own : agrees (slot 1 11 ∷ slot 3 13 ∷ []) one_and_three ≡ true
  pub lacks : agrees (slot 1 11 ∷ slot 2 12 ∷ slot 3 13 ∷ []) one_and_three ≡ false
  pub holds : agrees (slot 1 11 ∷ []) one_and_three ≡ false
  pub other-recording : agrees (slot 1 11 ∷ slot 3 12 ∷ []) one_and_three ≡ false
  pub damaged : agrees [] [] ≡ false

pub others-disagree : Disagree
unfolding everything one_and_three
others-disagree = record { own = refl; lacks = refl; holds = refl; other-recording = refl; damaged = refl }

-- ---- one script: insert 3, insert 1, insert 1 again, which is refused, delete 3: 6, 8 and 4 tables

pub record OneScript : Type 0 where
  pub tables : along table_count (2 ∷ 0 ∷ 0 ∷ 5 ∷ []) (empty 4) ≡ 18
  pub bad : along bad_count (2 ∷ 0 ∷ 0 ∷ 5 ∷ []) (empty 4) ≡ 0

pub one-script : OneScript
unfolding everything
one-script = record { tables = refl; bad = refl }
