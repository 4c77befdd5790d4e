-- The commands of a rehearsal have their forms, and make no volume under the name of a backup volume.
use Rattle.std.proofs.Common.{◌≡◌, ℕ, ◌-◌, zero, suc, ◌+◌, ◌*◌, ◌≤◌, Bool, true, false, not, List, [], ◌∷◌, ◌++◌, length, map, refl, sym, ◌∙◌, ap, arith, IsTrue, All, drop, length-append}
use Rattle.std.specs.Prelude.{◌↔◌, ◌&&◌, nat_eq}
use Rattle.std.specs.Cmp.Lexicographic.{pointwise}
use Rattle.std.specs.Fmt.{digits}
use Rattle.std.specs.List.{list_all, filter, flat_map, range_with_len}
use Rattle.std.proofs.lemmas.List.Elements.{All-from_recursion, All-nil, All-cons, All-append, All-map, All-filter}
use Rattle.bk_text.specs.Alphabets.{IsName, IsHost, IsSetName}
use Rattle.bk_text.specs.Bases.{backup_ending}
use Rattle.bk_text.specs.Patterns.{IsPatternByte}
use Rattle.bk_text.specs.LevelPaths.{IsLevelPath}
use Rattle.bk_text.specs.Tests.{word_test, name_test, host_test, set_name_test, level_path_test}
use Rattle.budb_changes.specs.Printable.{IsPatternBytes}
use Rattle.backup_words.specs.declared.command.Command.{Command}
use Rattle.backup_words.specs.Forms.{ends_in_backup}
use Rattle.backup_session.specs.Asks.{asks_dump, asks_saved}
use Rattle.backup_session.specs.Worlds.{World}
use Rattle.command_forms.specs.Forms.{HasForms}
use Rattle.command_forms.specs.NewNames.{IsApart, NamesApart}
use Rattle.session_archives.specs.Ready.{RestoresApart}
use Rattle.rehearsal.specs.declared.batch.Batch.{Batch}
use Rattle.rehearsal.specs.Names.{tape_host, server, partition, volumes, volume_name, set_name, pattern, full_level, first_level, second_level, third_level}
use Rattle.rehearsal.specs.Commands.{at, hosting, scanning, adding, writing, making, dumping, restoring, is_changed, changing, round, first_session, second_session, third_session}

-- what the tests of forms tell
pub record Tests : Type 0 where
  pub name : (text : List ℕ) → IsTrue (name_test text) ↔ IsName text
  pub host : (text : List ℕ) → IsTrue (host_test text) ↔ IsHost text
  pub set_name : (text : List ℕ) → IsTrue (set_name_test text) ↔ IsSetName text
  pub level_path : (text : List ℕ) → IsTrue (level_path_test text) ↔ IsLevelPath text

-- a command of the first session
pub record IsMade (command : Command) : Type 0 where
  pub forms : HasForms command
  pub named : NamesApart command
  pub restores : (w : World) → RestoresApart w command
  pub no_saved : asks_saved command ≡ false

-- a command of another one
pub record IsRead (command : Command) : Type 0 where
  pub forms : HasForms command
  pub no_dump : asks_dump command ≡ false
  pub no_saved : asks_saved command ≡ false

-- ---- the names of the volumes, by a table

abbrev is_fine : ℕ → Bool
is_fine k = name_test (volume_name k) && not (ends_in_backup (volume_name k))

table : list_all is_fine (volumes 200) ≡ true
unfolding word_test digits
table = refl

both_first : (a b : Bool) → (a && b) ≡ true → a ≡ true
both_first true b is = refl
both_first false b is = is

both_second : (a b : Bool) → (a && b) ≡ true → b ≡ true
both_second true b is = is
both_second false b is = absurd cc

front_fine : (p : ℕ → Bool) (a n m : ℕ) → n ≤ m → list_all p (range_with_len a m) ≡ true → list_all p (range_with_len a n) ≡ true
front_fine p a zero m le is = refl
front_fine p a (suc n) zero le is = absurd (omega arith)
front_fine p a (suc n) (suc m) le is =
    let rest = front_fine p (a + 1) n m (omega arith) (both_second (p a) (list_all p (range_with_len (a + 1) m)) is) in
    ap (λ (b : Bool). b && list_all p (range_with_len (a + 1) n)) (both_first (p a) (list_all p (range_with_len (a + 1) m)) is) ∙ rest

volumes_fine : (n : ℕ) → n ≤ 200 → list_all is_fine (volumes n) ≡ true
volumes_fine n few = front_fine is_fine 1 n 200 few table

-- ---- names that do not end in `.backup`

drop_front : (xs ys : List ℕ) → drop (length xs) (xs ++ ys) ≡ ys
drop_front [] ys = refl
drop_front (x ∷ xs) ys = drop_front xs ys

ends_so : (base : List ℕ) → ends_in_backup (base ++ backup_ending) ≡ true
ends_so base =
    let far : length (base ++ backup_ending) - 7 ≡ length base = omega (arith, length-append base backup_ending) in
    ap (λ (n : ℕ). pointwise nat_eq backup_ending (drop n (base ++ backup_ending))) far ∙ ap (pointwise nat_eq backup_ending) (drop_front base backup_ending)

apart : (name : List ℕ) → not (ends_in_backup name) ≡ true → IsApart name
apart name other base ends = let e : false ≡ true = sym (ap not (ap ends_in_backup ends ∙ ends_so base)) ∙ other in cc

-- ---- lists of commands

of_all : (Q : ℕ → Type 0) → ((k : ℕ) → is_fine k ≡ true → Q k) → (ks : List ℕ) → list_all is_fine ks ≡ true → All Q ks
of_all Q each [] is = All-nil Q
of_all Q each (k ∷ ks) is = All-cons Q k ks (each k (both_first (is_fine k) (list_all is_fine ks) is)) (of_all Q each ks (both_second (is_fine k) (list_all is_fine ks) is))

all_flat : {X : Type 0} (Q : X → Type 0) (f : ℕ → List X) → ((k : ℕ) → is_fine k ≡ true → All Q (f k)) → (ks : List ℕ) → list_all is_fine ks ≡ true → All Q (flat_map f ks)
all_flat Q f each [] is = All-nil Q
all_flat Q f each (k ∷ ks) is = All-append Q (f k) (flat_map f ks) (each k (both_first (is_fine k) (list_all is_fine ks) is)) (all_flat Q f each ks (both_second (is_fine k) (list_all is_fine ks) is))

-- ---- the other names

host_fine : host_test tape_host ≡ true
unfolding word_test
host_fine = refl

server_fine : host_test server ≡ true
unfolding word_test
server_fine = refl

partition_fine : name_test partition ≡ true
unfolding word_test
partition_fine = refl

set_fine : set_name_test set_name ≡ true
unfolding word_test
set_fine = refl

full_fine : level_path_test full_level ≡ true
unfolding word_test level_path_test
full_fine = refl

first_fine : level_path_test first_level ≡ true
unfolding word_test level_path_test
first_fine = refl

second_fine : level_path_test second_level ≡ true
unfolding word_test level_path_test
second_fine = refl

third_fine : level_path_test third_level ≡ true
unfolding word_test level_path_test
third_fine = refl

pattern_fine : IsPatternBytes pattern
pattern_fine = record {
  some = omega arith;
  short = omega arith;
  first = tt;
  each = All-from_recursion IsPatternByte pattern ((omega arith, omega arith), ((omega arith, omega arith), ((omega arith, omega arith), ((omega arith, omega arith), ((omega arith, omega arith), ((omega arith, omega arith), ((omega arith, omega arith), tt)))))));
}

-- ---- the sessions

module _ (tests : Tests) where
  named : (k : ℕ) → is_fine k ≡ true → IsName (volume_name k)
  named k is = (tests.name (volume_name k)).0 (both_first (name_test (volume_name k)) (not (ends_in_backup (volume_name k))) is)

  writes : (k size : ℕ) → IsMade (writing k size)
  writes k size = record { forms = (omega arith, tt); named = tt; restores = λ w. All-nil IsApart; no_saved = refl }

  makes : (k : ℕ) → is_fine k ≡ true → All IsMade (making k)
  makes k is = All-from_recursion IsMade (making k) (
    record {
      forms = ((tests.host server).0 server_fine, (tests.name partition).0 partition_fine, named k is);
      named = apart (volume_name k) (both_second (name_test (volume_name k)) (not (ends_in_backup (volume_name k))) is);
      restores = λ w. All-nil IsApart;
      no_saved = refl;
    },
    (writes k (1000 * k), tt),
  )

  dumps : (level : List ℕ) → IsLevelPath level → All IsMade (dumping level ∷ [])
  dumps level is = All-from_recursion IsMade (dumping level ∷ []) (record { forms = ((tests.set_name set_name).0 set_fine, is); named = tt; restores = λ w. All-nil IsApart; no_saved = refl }, tt)

  four_levels : All IsLevelPath (full_level ∷ (first_level ∷ (second_level ∷ (third_level ∷ []))))
  four_levels =
      All-from_recursion IsLevelPath (full_level ∷ (first_level ∷ (second_level ∷ (third_level ∷ []))))
      ((tests.level_path full_level).0 full_fine, ((tests.level_path first_level).0 first_fine, ((tests.level_path second_level).0 second_fine, ((tests.level_path third_level).0 third_fine, tt))))

  adds : All IsMade adding
  adds = All-from_recursion IsMade adding (
    record { forms = ((tests.host tape_host).0 host_fine, omega arith); named = tt; restores = λ w. All-nil IsApart; no_saved = refl },
    (
      record { forms = (tests.set_name set_name).0 set_fine; named = tt; restores = λ w. All-nil IsApart; no_saved = refl },
      (
        record { forms = ((tests.set_name set_name).0 set_fine, tt, tt, pattern_fine); named = tt; restores = λ w. All-nil IsApart; no_saved = refl },
        (record { forms = (four_levels, tt); named = tt; restores = λ w. All-nil IsApart; no_saved = refl }, tt),
      ),
    ),
  )

  changes : (n r : ℕ) → n ≤ 200 → All IsMade (changing n r)
  changes n r few =
      All-map IsMade (λ k. writing k (1000 * k + r)) (filter (is_changed r) (volumes n))
      (All-filter (is_changed r) (λ k. IsMade (writing k (1000 * k + r))) (volumes n) (of_all (λ k. IsMade (writing k (1000 * k + r))) (λ k is. writes k (1000 * k + r)) (volumes n) (volumes_fine n few)))

  abbrev pub AreMade : Batch → Type 0
  AreMade batch = All IsMade batch.commands

  rounds : (n r : ℕ) (level : List ℕ) → n ≤ 200 → IsLevelPath level → All AreMade (round n r level)
  rounds n r level few is = All-from_recursion AreMade (round n r level) (changes n r few, (dumps level is, tt))

  pub first_made : (n : ℕ) → n ≤ 200 → All AreMade (first_session n)
  first_made n few =
      let last = All-append AreMade (round n 2 second_level) (round n 3 third_level) (rounds n 2 second_level few ((tests.level_path second_level).0 second_fine)) (rounds n 3 third_level few ((tests.level_path third_level).0 third_fine)) in
      let rest = All-append AreMade (round n 1 first_level) (round n 2 second_level ++ round n 3 third_level) (rounds n 1 first_level few ((tests.level_path first_level).0 first_fine)) last in
      let full = All-cons AreMade (at 1000100 (dumping full_level ∷ [])) (round n 1 first_level ++ round n 2 second_level ++ round n 3 third_level) (dumps full_level ((tests.level_path full_level).0 full_fine)) rest in
      All-cons AreMade (at 1000000 (adding ++ flat_map making (volumes n))) (at 1000100 (dumping full_level ∷ []) ∷ (round n 1 first_level ++ round n 2 second_level ++ round n 3 third_level))
      (All-append IsMade adding (flat_map making (volumes n)) adds (all_flat IsMade making makes (volumes n) (volumes_fine n few))) full

  abbrev pub AreRead : Batch → Type 0
  AreRead batch = All IsRead batch.commands

  restores : (n : ℕ) → n ≤ 200 → All IsRead (map restoring (volumes n))
  restores n few =
      All-map IsRead restoring (volumes n)
      (of_all (λ k. IsRead (restoring k)) (λ k is. record { forms = ((tests.host server).0 server_fine, (tests.name partition).0 partition_fine); no_dump = refl; no_saved = refl }) (volumes n) (volumes_fine n few))

  scans : (n : ℕ) → n ≤ 200 → All IsRead (scanning ∷ map restoring (volumes n))
  scans n few = All-cons IsRead scanning (map restoring (volumes n)) (record { forms = tt; no_dump = refl; no_saved = refl }) (restores n few)

  pub second_read : (n : ℕ) → n ≤ 200 → All AreRead (second_session n)
  second_read n few =
      All-cons AreRead (at 1000500 (hosting ∷ (scanning ∷ map restoring (volumes n)))) []
      (All-cons IsRead hosting (scanning ∷ map restoring (volumes n)) (record { forms = ((tests.host tape_host).0 host_fine, omega arith); no_dump = refl; no_saved = refl }) (scans n few)) (All-nil AreRead)

  pub third_read : (n : ℕ) → n ≤ 200 → All AreRead (third_session n)
  third_read n few = All-cons AreRead (at 1000600 (scanning ∷ map restoring (volumes n))) [] (scans n few) (All-nil AreRead)
