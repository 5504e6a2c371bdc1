-- Writes tried on tables of every kind: each first part of their stores, each cut of their orders, and the numbers that refuse.
use Rattle.std.proofs.Common.{◌≡◌, ℕ, pred, Bool, true, false, ◌&&◌, List, [], ◌∷◌, ◌++◌, take, refl}
use Rattle.model.specs.Table.{MARK, Words, empty}
use Rattle.model.specs.Slots.{slot, RECORDINGS, pointer_of, view}
use Rattle.model.specs.SoundTest.{all}
use Rattle.model.specs.Orders.{put, apply}
use Rattle.model.specs.Shifts.{key_word, pointer_word}
use Rattle.model.specs.Writes.{Call, insertion, deletion, class_change, repair, stores_of}
use Rattle.model.proofs.Everything.{everything}
use Rattle.model.proofs.Worked.{tens, ten_slots, root_leaf}
use Rattle.model.proofs.Quick.{quick}
use Rattle.model.proofs.Tables.{table_of, leaf_of, ways, stale, one_level, two_levels, three_levels}
use Rattle.model.proofs.Trials.{Trial, done, ended, cut, number, reaches, passes, quickly, all_keys}

-- the table after the call's first n stores
abbrev pub cut_after : (n : ℕ) → Call → Words → Words
cut_after n x t = apply (take n (stores_of x t)) t

-- every key and fence is searched for
abbrev pub small : Words → List Call → Trial
small t xs = done t (all_keys (view t)) xs

-- in a leaf, at both ends and in the middle; the words past the slots in use may be stale
abbrev pub in_leaf : List Trial
in_leaf =
    small (empty 1) (insertion 1 0 1 2 ∷ insertion 1 MARK 7 1 ∷ repair ∷ [])
    ∷ small (one_level 1 []) (deletion 1 10 ∷ [])
    ∷ small (apply (put (key_word 1 3) 33 ∷ put (key_word 1 4) 35 ∷ put (pointer_word 1 4) 88 ∷ []) (one_level 3 []))
    (insertion 1 0 7 0 ∷ insertion 1 25 7 0 ∷ insertion 1 35 7 0 ∷ deletion 1 10 ∷ deletion 1 20 ∷ deletion 1 30 ∷ repair ∷ [])
    ∷ done (one_level 10 []) (10 ∷ 50 ∷ 100 ∷ []) (insertion 1 5 7 0 ∷ insertion 1 105 7 0 ∷ [])
    ∷ done (one_level 11 []) (20 ∷ 60 ∷ 110 ∷ []) (deletion 1 10 ∷ deletion 1 110 ∷ [])
    ∷ []

-- splits: of a root leaf, the fresh nodes after it or going round; below a parent, at its first slot and at its end
abbrev pub splitting : List Trial
splitting =
    small (root_leaf 3) (insertion 1 115 7 0 ∷ [])
    ∷ done (table_of 3 (stale 2 ++ (leaf_of 1 0 11 ∷ []))) (0 ∷ 10 ∷ 50 ∷ 60 ∷ 110 ∷ MARK ∷ []) (insertion 1 55 7 0 ∷ [])
    ∷ done (two_levels (11 ∷ 1 ∷ []) (ways 2 1) (stale 1)) (10 ∷ 50 ∷ 60 ∷ 110 ∷ 200 ∷ 210 ∷ []) (insertion 1 115 7 0 ∷ [])
    ∷ done (two_levels (0 ∷ 11 ∷ []) (ways 2 1) (stale 1)) (0 ∷ 200 ∷ 210 ∷ 260 ∷ 310 ∷ []) (insertion 1 315 7 0 ∷ [])
    ∷ []

-- runs of two full nodes, a leaf and its parent: below the root, with a sibling; and the root itself
abbrev pub runs : List Trial
runs =
    done (three_levels (0 ∷ 0 ∷ 0 ∷ 0 ∷ 0 ∷ 0 ∷ 0 ∷ 0 ∷ 0 ∷ 0 ∷ 0 ∷ 11 ∷ 0 ∷ []) (ways 2 11) (slot 2400 15 ∷ []) (stale 2))
    (2199 ∷ 2210 ∷ 2260 ∷ 2310 ∷ 2400 ∷ []) (insertion 1 2315 7 0 ∷ [])
    ∷ done (two_levels (0 ∷ 0 ∷ 0 ∷ 0 ∷ 0 ∷ 11 ∷ 0 ∷ 0 ∷ 0 ∷ 0 ∷ 0 ∷ 0 ∷ []) (ways 2 11) (stale 3)) (999 ∷ 1010 ∷ 1060 ∷ 1110 ∷ 1200 ∷ [])
    (insertion 1 1000 7 0 ∷ [])
    ∷ []

-- leftover (a) in a leaf and in an inner node, at slot 0, between two slots and at the end; with a full leaf
abbrev pub hidden_trials : List Trial
hidden_trials =
    small (apply (put (pointer_word 1 0) MARK ∷ []) (one_level 3 (stale 1))) (repair ∷ insertion 1 5 7 0 ∷ deletion 1 30 ∷ [])
    ∷ small (apply (put (pointer_word 1 1) 101 ∷ []) (one_level 3 (stale 1))) (repair ∷ insertion 1 20 7 0 ∷ deletion 1 10 ∷ [])
    ∷ small (apply (put (pointer_word 1 2) 102 ∷ []) (one_level 3 (stale 1))) (repair ∷ insertion 1 35 7 0 ∷ deletion 1 20 ∷ [])
    ∷ small (two_levels (1 ∷ 1 ∷ 1 ∷ []) (slot 77 1 ∷ ways 2 2) (stale 1)) (repair ∷ insertion 1 205 7 0 ∷ deletion 1 10 ∷ [])
    ∷ small (two_levels (1 ∷ 1 ∷ 1 ∷ []) (slot 200 2 ∷ slot 300 2 ∷ ways 3 1) (stale 1))
    (repair ∷ insertion 1 305 7 0 ∷ deletion 1 210 ∷ [])
    ∷ small (two_levels (1 ∷ 1 ∷ 1 ∷ []) (ways 2 2 ++ (slot 0 3 ∷ [])) (stale 1)) (repair ∷ insertion 1 405 7 0 ∷ deletion 1 410 ∷ [])
    ∷ done (two_levels (11 ∷ 1 ∷ []) (slot 200 1 ∷ ways 2 1) (stale 1)) (10 ∷ 60 ∷ 110 ∷ 210 ∷ []) (insertion 1 115 7 0 ∷ [])
    ∷ []

-- leftovers (b) with slots from B's fence up, (b) without, and (c): after the last child, between two, and of an inner node; and a full
-- leaf that repair cuts, so that no split is due
abbrev pub missing_slots : List Trial
missing_slots =
    small (apply (put (key_word 1 1) 220 ∷ put (key_word 1 2) 200 ∷ []) (two_levels (3 ∷ 1 ∷ []) [] []))
    (repair ∷ insertion 1 105 7 0 ∷ deletion 1 10 ∷ [])
    ∷ small (two_levels (1 ∷ 1 ∷ []) [] []) (repair ∷ insertion 1 105 7 0 ∷ deletion 1 210 ∷ [])
    ∷ small (two_levels (1 ∷ 1 ∷ []) (slot 200 1 ∷ []) []) (repair ∷ insertion 1 205 7 0 ∷ deletion 1 10 ∷ [])
    ∷ small (apply (put (key_word 1 0) 220 ∷ []) (two_levels (1 ∷ 1 ∷ 1 ∷ []) (ways 3 1) [])) (repair ∷ [])
    ∷ small (two_levels (1 ∷ 1 ∷ 1 ∷ []) (ways 3 1) []) (insertion 1 205 7 0 ∷ [])
    ∷ small (two_levels (1 ∷ 1 ∷ 1 ∷ []) (ways 3 1 ++ (slot 0 3 ∷ [])) []) (deletion 1 410 ∷ [])
    ∷ small (three_levels (1 ∷ 1 ∷ 1 ∷ []) (ways 2 2) [] []) (repair ∷ insertion 1 205 7 0 ∷ [])
    ∷ small (three_levels (1 ∷ 1 ∷ 1 ∷ []) (ways 2 1) [] []) (repair ∷ [])
    ∷ small (three_levels (1 ∷ 1 ∷ 1 ∷ []) (ways 2 1) (slot 0 4 ∷ []) []) (repair ∷ [])
    ∷ done (cut_after 33 (insertion 1 115 7 0) (two_levels (11 ∷ []) [] (stale 1))) (10 ∷ 60 ∷ 110 ∷ []) (insertion 1 55 7 0 ∷ [])
    ∷ []

-- shifts over two lines; a split, where the fresh node is full of stale words, so it must be whole in memory before A leads to it; a leaf
-- freed
abbrev pub cuts : List Trial
cuts =
    cut (one_level 4 []) (insertion 1 5 7 0 ∷ []) ∷ cut (one_level 5 []) (deletion 1 10 ∷ [])
    ∷ cut (two_levels (11 ∷ []) [] (stale 1)) (insertion 1 115 7 0 ∷ [])
    ∷ cut (two_levels (1 ∷ 1 ∷ 1 ∷ []) (ways 2 2) []) (deletion 1 210 ∷ []) ∷ []

-- an emptied leaf is freed, and no other node: in the middle, at the end, below a full parent, below a second parent; not a root leaf, nor
-- a leftmost child. Cut between the parent's first store and the last, repair attaches it again; emptied by a cut or a repair, it stays.
abbrev pub freeing : List Trial
freeing =
    small (two_levels (2 ∷ 1 ∷ 1 ∷ []) (ways 2 2) (stale 1)) (deletion 1 210 ∷ deletion 1 410 ∷ deletion 1 20 ∷ [])
    ∷ ended (two_levels (0 ∷ 1 ∷ 0 ∷ 0 ∷ 0 ∷ 0 ∷ 0 ∷ 0 ∷ 0 ∷ 0 ∷ 0 ∷ 0 ∷ []) (ways 2 11) []) (deletion 1 210 ∷ [])
    ∷ small (three_levels (1 ∷ 1 ∷ 1 ∷ []) (ways 2 1) (slot 400 5 ∷ []) []) (deletion 1 210 ∷ deletion 1 410 ∷ [])
    ∷ reaches (one_level 1 []) (deletion 1 10) (1 ∷ [])
    ∷ reaches (two_levels (2 ∷ 1 ∷ 1 ∷ []) (ways 2 2) (stale 1)) (deletion 1 10) (4 ∷ 1 ∷ 2 ∷ 3 ∷ [])
    ∷ reaches (three_levels (1 ∷ 1 ∷ 1 ∷ []) (ways 2 1) (slot 400 5 ∷ []) []) (deletion 1 210) (6 ∷ 4 ∷ 5 ∷ 1 ∷ 3 ∷ [])
    ∷ reaches (three_levels (1 ∷ 1 ∷ 1 ∷ []) (ways 2 1) (slot 400 5 ∷ []) []) (deletion 1 410) (6 ∷ 4 ∷ 5 ∷ 1 ∷ 2 ∷ 3 ∷ [])
    ∷ reaches (cut_after 2 (deletion 1 210) (two_levels (1 ∷ 1 ∷ 1 ∷ []) (ways 2 2) [])) repair (4 ∷ 1 ∷ 2 ∷ 3 ∷ [])
    ∷ reaches (cut_after 3 (deletion 1 210) (two_levels (1 ∷ 1 ∷ 1 ∷ []) (ways 2 2) [])) repair (4 ∷ 1 ∷ 2 ∷ 3 ∷ [])
    ∷ reaches (cut_after 6 (deletion 1 210) (two_levels (1 ∷ 1 ∷ 1 ∷ []) (ways 2 2) [])) repair (4 ∷ 1 ∷ 2 ∷ 3 ∷ [])
    ∷ reaches (cut_after 6 (deletion 1 210) (two_levels (1 ∷ 1 ∷ 1 ∷ []) (ways 2 2) [])) (deletion 1 10) (4 ∷ 1 ∷ 2 ∷ 3 ∷ [])
    ∷ reaches (cut_after 7 (deletion 1 210) (two_levels (1 ∷ 1 ∷ 1 ∷ []) (ways 2 2) [])) repair (4 ∷ 1 ∷ 3 ∷ [])
    ∷ done (cut_after 5 (deletion 1 210) (two_levels (11 ∷ 1 ∷ []) (ways 2 1) [])) (10 ∷ 60 ∷ 110 ∷ []) (insertion 1 11 1 0 ∷ [])
    ∷ []

-- a changed class: at both ends and in the middle, the same class again, in a full leaf; after each leftover; and cut
abbrev pub classes : List Trial
classes =
    small (one_level 3 []) (class_change 1 10 1 ∷ class_change 1 20 0 ∷ class_change 1 30 2 ∷ [])
    ∷ done (one_level 11 []) (10 ∷ 60 ∷ 110 ∷ []) (class_change 1 60 2 ∷ class_change 1 110 1 ∷ [])
    ∷ small (apply (put (pointer_word 1 1) 101 ∷ []) (one_level 3 (stale 1))) (class_change 1 10 1 ∷ class_change 1 30 2 ∷ [])
    ∷ small (apply (put (key_word 1 1) 220 ∷ put (key_word 1 2) 200 ∷ []) (two_levels (3 ∷ 1 ∷ []) [] []))
    (class_change 1 10 1 ∷ class_change 1 210 2 ∷ [])
    ∷ small (two_levels (1 ∷ 1 ∷ []) (slot 200 1 ∷ []) []) (class_change 1 210 1 ∷ [])
    ∷ cut (one_level 4 []) (class_change 1 20 2 ∷ [])
    ∷ cut (apply (put (pointer_word 1 1) 101 ∷ []) (one_level 3 (stale 1))) (class_change 1 30 1 ∷ [])
    ∷ []

-- the numbers in their order; 8 looks at the map alone, and at recordings alone
abbrev pub refusals : List Trial
refusals =
    number (empty 1) 2559 5 (insertion 1 1 0 3 ∷ deletion 1 1 ∷ class_change 1 1 3 ∷ repair ∷ [])
    ∷ number (apply (put 3 1 ∷ []) (empty 1)) 2559 2 (insertion 1 1 0 3 ∷ deletion 1 1 ∷ class_change 1 1 3 ∷ repair ∷ [])
    ∷ number (apply (put 12 1 ∷ []) (empty 1)) 2559 4 (insertion 1 1 0 3 ∷ deletion 1 1 ∷ class_change 1 1 3 ∷ repair ∷ [])
    ∷ number (one_level 11 []) 2560 6 (insertion 1 10 0 0 ∷ insertion 1 10 RECORDINGS 3 ∷ insertion 1 10 MARK 3 ∷ [])
    ∷ number (one_level 11 []) 2560 14
    (insertion 1 10 101 3 ∷ insertion 1 10 (pred RECORDINGS) MARK ∷ class_change 1 10 3 ∷ class_change 1 11 MARK ∷ [])
    ∷ number (one_level 11 []) 2560 7 (insertion 1 10 101 0 ∷ insertion 1 110 102 0 ∷ [])
    ∷ number (one_level 11 []) 2560 8 (insertion 1 11 101 2 ∷ insertion 1 0 111 0 ∷ [])
    ∷ number (apply (put (pointer_word 1 0) (pointer_of 101 2) ∷ []) (one_level 3 [])) 2560 8
    (insertion 1 11 101 0 ∷ insertion 1 11 101 2 ∷ [])
    ∷ number (one_level 11 []) 2560 9 (deletion 1 11 ∷ deletion 1 0 ∷ class_change 1 11 0 ∷ class_change 1 0 2 ∷ [])
    ∷ number (one_level 3 []) 2560 0 (insertion 1 11 (pred RECORDINGS) 2 ∷ class_change 1 10 0 ∷ class_change 1 10 2 ∷ [])
    ∷ number (one_level 11 []) 2560 10 (insertion 1 11 1 0 ∷ [])
    ∷ number (one_level 11 (stale 1)) 2560 10 (insertion 1 11 1 0 ∷ [])
    ∷ number (two_levels (11 ∷ 1 ∷ []) (ways 2 1) []) 2560 10 (insertion 1 11 1 0 ∷ [])
    ∷ number (two_levels (11 ∷ 1 ∷ []) (ways 2 1) []) 2560 0 (insertion 1 211 1 0 ∷ [])
    ∷ number (apply (put (key_word 1 1) 230 ∷ []) (two_levels (2 ∷ 1 ∷ []) [] [])) 2560 0
    (insertion 1 20 102 0 ∷ insertion 1 230 102 0 ∷ repair ∷ [])
    ∷ []

-- ---- all of them pass

in-leaf : all (passes view) in_leaf ≡ true
unfolding everything ten_slots quick
in-leaf = quickly in_leaf refl

split-one : all (passes view) splitting ≡ true
unfolding everything tens ten_slots root_leaf quick
split-one = quickly splitting refl

split-two : all (passes view) runs ≡ true
unfolding everything ten_slots quick
split-two = quickly runs refl

hidden-slots : all (passes view) hidden_trials ≡ true
unfolding everything ten_slots quick
hidden-slots = quickly hidden_trials refl

missing-slots : all (passes view) missing_slots ≡ true
unfolding everything ten_slots quick
missing-slots = quickly missing_slots refl

cut-calls : all (passes view) cuts ≡ true
unfolding everything ten_slots quick
cut-calls = quickly cuts refl

freed-leaves : all (passes view) freeing ≡ true
unfolding everything ten_slots quick
freed-leaves = quickly freeing refl

class-changes : all (passes view) classes ≡ true
unfolding everything ten_slots quick
class-changes = quickly classes refl

refused-calls : all (passes view) refusals ≡ true
unfolding everything ten_slots quick
refused-calls = quickly refusals refl

-- lists of trials that pass, joined
join : (a b c : Bool) → a && b ≡ true → (b ≡ true → c ≡ true) → a && c ≡ true
join true b c e g = g e
join false b c e g = e

and-more : (ts us : List Trial) → all (passes view) ts ≡ true → all (passes view) us ≡ true → all (passes view) (ts ++ us) ≡ true
unfolding all
and-more [] us e f = f
and-more (t ∷ ts) us e f =
    join (passes view t) (all (passes view) ts) (all (passes view) (ts ++ us)) e (λ h. and-more ts us h f)

abbrev pub all_trials : List Trial
all_trials = in_leaf ++ (splitting ++ (runs ++ (hidden_trials ++ (missing_slots ++ (cuts ++ (freeing ++ (classes ++ refusals)))))))

pub trials : all (passes view) all_trials ≡ true
trials =
    and-more in_leaf _ in-leaf (and-more splitting _ split-one (and-more runs _ split-two (and-more hidden_trials _ hidden-slots
    (and-more missing_slots _ missing-slots
    (and-more cuts _ cut-calls (and-more freeing _ freed-leaves (and-more classes refusals class-changes refused-calls)))))))
