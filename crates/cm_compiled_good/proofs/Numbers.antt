-- Decimal texts of numbers that rise are distinct.
use Rattle.std.proofs.Common.{◌≡◌, ℕ, suc, zero, ◌+◌, ◌<◌, ◌≤◌, List, [], ◌∷◌, ◌++◌, Bool, true, false, map, refl, arith, decimal}
use Rattle.std.specs.List.{range_with_len, sum_by}
use Rattle.std.specs.Str.{bytes_eq}
use Rattle.std.proofs.lemmas.Fmt.{decimal_injective}
use Rattle.std.proofs.lemmas.List.Sums.{sum_by-cons}
use Rattle.gk_pickle.specs.declared.pickles.Pickle.{Pickle}
use Rattle.cm_attempt.specs.Table.{has_text, has_repeat}
use Rattle.cm_stream.proofs.Found.{bytes_are}
use Rattle.cm_compile.specs.Compiled.{id_count}

pub decimals_differ : (m n : ℕ) → m < n → n < 18446744073709551616 → bytes_eq (decimal m) (decimal n) ≡ false
decimals_differ m n less small = go (bytes_eq (decimal m) (decimal n)) refl
  where
    go : (b : Bool) → bytes_eq (decimal m) (decimal n) ≡ b → b ≡ false
    go false e = refl
    go true e = let same : m ≡ n = decimal_injective m n (omega arith) small (bytes_are (decimal m) (decimal n) e) in absurd (omega arith)

pub decimals_differ_back : (m n : ℕ) → n < m → m < 18446744073709551616 → bytes_eq (decimal m) (decimal n) ≡ false
decimals_differ_back m n less small = go (bytes_eq (decimal m) (decimal n)) refl
  where
    go : (b : Bool) → bytes_eq (decimal m) (decimal n) ≡ b → b ≡ false
    go false e = refl
    go true e = let same : m ≡ n = decimal_injective m n small (omega arith) (bytes_are (decimal m) (decimal n) e) in absurd (omega arith)

-- ---- the ids of nodes

absent : (m a k : ℕ) → m < a → a + k ≤ 18446744073709551616 → has_text (decimal m) (map decimal (range_with_len a k)) ≡ false
absent m a zero less small = refl
absent m a (suc k) less small = rw (decimals_differ m a less (omega arith), absent m (a + 1) k (omega arith) (omega arith)) refl

pub none_repeats : (a k : ℕ) → a + k ≤ 18446744073709551616 → has_repeat (map decimal (range_with_len a k)) ≡ false
none_repeats a zero small = refl
none_repeats a (suc k) small = rw (absent a (a + 1) k (omega arith) (omega arith), none_repeats (a + 1) k (omega arith)) refl

-- ---- the ids of pickles

-- the first id after those of pickles
abbrev pub next_id : ℕ → List Pickle → ℕ
next_id id [] = id
next_id id (p ∷ ps) = next_id (id + id_count p) ps

pub next_later : (id : ℕ) (ps : List Pickle) → id ≤ next_id id ps
next_later id [] = omega arith
next_later id (p ∷ ps) = omega (arith, next_later (id + id_count p) ps)

pub next_is : (id : ℕ) (ps : List Pickle) → next_id id ps ≡ id + sum_by id_count ps
next_is id [] = omega arith
next_is id (p ∷ ps) = omega (arith, next_is (id + id_count p) ps, sum_by-cons id_count p ps)

pub next_push : (id : ℕ) (ps : List Pickle) (p : Pickle) → next_id id (ps ++ p ∷ []) ≡ next_id id ps + id_count p
next_push id [] p = refl
next_push id (q ∷ ps) p = next_push (id + id_count q) ps p
