-- The units of a row, read one character after another.
use Rattle.std.proofs.Common.{◌≡◌, ℕ, ◌+◌, ◌<◌, Bool, true, false, cond, List, [], ◌∷◌, ◌++◌, length, Option, Some, None, sym, refl, ap, ◌∙◌, subst, inl, inr, drop, get_or, drop-cons, add-one, suc, length-append, arith}
use Rattle.std.proofs.lemmas.List.{append_assoc, append-nil}
use Rattle.std.specs.Prelude.{◌&&◌, ◌⊎◌, ◌==◌, if◌then◌else◌, map}
use Rattle.std.specs.Char.{is_whitespace, IsScalar}
use Rattle.std.specs.List.{prefix_len, slice_split, AllByRecursion}
use Rattle.std.specs.Str.{skip_leading_whitespace, drop_trailing_whitespace, NonePass, IsUtf8}
use Rattle.std.proofs.lemmas.Bool.{ne_eqb, eqb-true, eq-eqb, false≢true}
use Rattle.std.proofs.lemmas.Grind.{common_steps}
use Rattle.gk_line.specs.Texts.{trimmed_text, after, text_after_indent}
use Rattle.gk_line.specs.Tokens.{indent_of}
use Rattle.std.specs.Prelude.{codes}
use Rattle.std.proofs.lemmas.List.Splits.{length-slice_split}
use Rattle.gk_line.specs.Views.{cell_text}
use Rattle.gk_document.specs.declared.tree.Cell.{Cell}
use Rattle.gk_line.specs.Tokens.{begins_by}
use Rattle.std.specs.Prelude.{is_some}
use Rattle.gk_line.proofs.TextLemmas.{after-some}
use Rattle.gk_line.specs.Cells.{CellText, CellUnit, plain_unit, pair_unit, escape_meaning, unit_or, units, is_bar, is_space, skip_spaces, drop_spaces, widths, meanings, NoBar, IsCutAtBar, cell_at, cells_from, cells_of, without_first}
use Rattle.gk_line.specs.Characters.{backslash, letter_n, line_feed, vertical_bar}

-- the units that begin here, where a backslash is just before or not
abbrev pub run : List ℕ → Bool → List CellUnit
run [] false = []
run [] true = plain_unit backslash ∷ []
run (c ∷ cs) false = if c == backslash then run cs true else plain_unit c ∷ run cs false
run (c ∷ cs) true = unit_or (escape_meaning c) (plain_unit backslash ∷ plain_unit c ∷ run cs false) (run cs false)

pub units-other : (c : ℕ) (cs : List ℕ) → (c == backslash) ≡ false → units (c ∷ cs) ≡ plain_unit c ∷ units cs
unfolding units
units-other c [] h = refl
units-other c (d ∷ cs) h = rw h refl

unit_or_same : (o : Option ℕ) (a b r s : List CellUnit) → (o ≡ None → a ≡ b) → r ≡ s → unit_or o a r ≡ unit_or o b s
unit_or_same None a b r s alone rest = alone refl
unit_or_same (Some c) a b r s alone rest = ap (λ q. pair_unit c ∷ q) rest

not_escaped : (c : ℕ) → escape_meaning c ≡ None → (c == backslash) ≡ false
not_escaped c h = grind (arith, common_steps)

escaped_other : (c e : ℕ) → escape_meaning c ≡ Some e → is_whitespace c ≡ false
escaped_other c e h = grind (arith, common_steps)

test_cases : {A : Type 0} (b : Bool) → (b ≡ true → A) → (b ≡ false → A) → A
test_cases true t f = t refl
test_cases false t f = f refl

both_run : (cs : List ℕ) → (units cs ≡ run cs false) × (units (backslash ∷ cs) ≡ run cs true)
unfolding units
both_run [] = (refl, refl)
both_run (d ∷ cs) =
    let below = both_run cs in (
      test_cases (d == backslash)
          (λ e. rw e (ap (λ c. units (c ∷ cs)) (eqb-true d backslash e) ∙ below.1))
          (λ e. rw e (units-other d cs e ∙ ap (λ q. plain_unit d ∷ q) below.0)),
      unit_or_same (escape_meaning d) _ _ _ _ (λ none. ap (λ q. plain_unit backslash ∷ q) (units-other d cs (not_escaped d none) ∙ ap (λ q. plain_unit d ∷ q) below.0)) below.0,
    )

pub units-run : (cs : List ℕ) → units cs ≡ run cs false
units-run cs = (both_run cs).0

-- white space is a unit by itself
space_other : (c : ℕ) → is_whitespace c ≡ true → (c == backslash) ≡ false
space_other c h = ne_eqb c backslash (λ e. absurd (false≢true (ap is_whitespace (sym e) ∙ h)))

not_space_unit : (c : ℕ) (cs : List ℕ) → is_whitespace c ≡ false → (u : CellUnit) × (us : List CellUnit) × (run (c ∷ cs) false ≡ u ∷ us) × (is_space u ≡ false)
not_space_unit c cs h =
    test_cases (c == backslash)
    (λ e. let first = after_backslash cs in (first.0, first.1, rw e first.2, first.3))
    (λ e. (plain_unit c, run cs false, rw e refl, h)) where
      after_backslash : (cs : List ℕ) → (u : CellUnit) × (us : List CellUnit) × (run cs true ≡ u ∷ us) × (is_space u ≡ false)
      after_backslash [] = (plain_unit backslash, [], refl, refl)
      after_backslash (d ∷ ds) = by_option (escape_meaning d) where
        by_option : (o : Option ℕ) → (u : CellUnit) × (us : List CellUnit) × (unit_or o (plain_unit backslash ∷ plain_unit d ∷ run ds false) (run ds false) ≡ u ∷ us) × (is_space u ≡ false)
        by_option None = (plain_unit backslash, plain_unit d ∷ run ds false, refl, refl)
        by_option (Some e) = (pair_unit e, run ds false, refl, refl)

run-skip : (cs : List ℕ) → run (skip_leading_whitespace cs) false ≡ skip_spaces (run cs false)
run-skip [] = refl
run-skip (c ∷ cs) =
    test_cases (is_whitespace c)
    (λ e. rw (e, space_other c e, e) (run-skip cs))
    (λ e. let first = not_space_unit c cs e in rw e (rw first.2 (rw first.3 refl)))

run-leading : (cs : List ℕ) → prefix_len is_whitespace cs ≡ prefix_len is_space (run cs false)
run-leading [] = refl
run-leading (c ∷ cs) =
    test_cases (is_whitespace c)
    (λ e. rw (e, space_other c e, e) (ap (λ n. 1 + n) (run-leading cs)))
    (λ e. let first = not_space_unit c cs e in rw e (rw first.2 (rw first.3 refl)))

run-widths : (cs : List ℕ) → (widths (run cs false) ≡ length cs) × (widths (run cs true) ≡ length cs + 1)
run-widths [] = (refl, refl)
run-widths (c ∷ cs) =
    let below = run-widths cs in
    (test_cases (c == backslash) (λ e. rw e (omega (arith, below.1))) (λ e. rw e (omega (arith, below.0))), by_option (escape_meaning c) below.0) where
      by_option : (o : Option ℕ) → widths (run cs false) ≡ length cs → widths (unit_or o (plain_unit backslash ∷ plain_unit c ∷ run cs false) (run cs false)) ≡ length (c ∷ cs) + 1
      by_option None e = omega (arith, e)
      by_option (Some d) e = omega (arith, e)

empty_run : (cs : List ℕ) → (length (run cs false) == 0) ≡ (length cs == 0)
empty_run [] = refl
empty_run (c ∷ cs) = by_width (run (c ∷ cs) false) (length cs) (omega (arith, (run-widths (c ∷ cs)).0)) ∙ sym (grind (arith, common_steps)) where
  by_width : (us : List CellUnit) (n : ℕ) → widths us ≡ n + 1 → (length us == 0) ≡ false
  by_width [] n e = absurd (omega (arith, e))
  by_width (u ∷ us) n e = grind (arith, common_steps)

option_cases : {A T : Type 0} (o : Option T) → (o ≡ None → A) → ((x : T) → o ≡ Some x → A) → A
option_cases None n s = n refl
option_cases (Some x) n s = s x refl

run-drop : (cs : List ℕ) → (run (drop_trailing_whitespace cs) false ≡ drop_spaces (run cs false)) × (run (drop_trailing_whitespace cs) true ≡ drop_spaces (run cs true))
run-drop [] = (refl, refl)
run-drop (c ∷ cs) =
    let ih = run-drop cs in
    let kept = drop_trailing_whitespace cs in (
      test_cases (c == backslash)
          (λ e. let other : is_whitespace c ≡ false = ap is_whitespace (eqb-true c backslash e) in rw (other, e) ih.1)
          (λ e. rw (e, ← ih.0, empty_run kept) (alone (is_whitespace c && length kept == 0) kept e)),
      option_cases (escape_meaning c)
          (λ e. rw (e, ← ih.0, empty_run kept) (after_one (is_whitespace c && length kept == 0) kept e))
          (λ d e. rw (escaped_other c d e, e) (ap (λ q. pair_unit d ∷ q) ih.0)),
    ) where
      alone : (b : Bool) (kept : List ℕ) → (c == backslash) ≡ false → run (cond b [] (c ∷ kept)) false ≡ (if b then [] else plain_unit c ∷ run kept false)
      alone true kept e = refl
      alone false kept e = rw e refl

      after_one : (b : Bool) (kept : List ℕ) → escape_meaning c ≡ None → run (cond b [] (c ∷ kept)) true ≡ plain_unit backslash ∷ (if b then [] else plain_unit c ∷ run kept false)
      after_one true kept e = refl
      after_one false kept e = rw e refl

-- the front was read, and left these units
pub record Reads (front : List ℕ) (us : List CellUnit) : Type 0 where
  pub on : (rest : List ℕ) → run (front ++ rest) false ≡ us ++ run rest false
  pub open_row : NoBar us

pub Reads-nil : Reads [] []
Reads-nil = record { on = λ rest. refl; open_row = tt }

run-plain : (p rest : List ℕ) → NonePass (λ c. c == backslash) p → run (p ++ rest) false ≡ map plain_unit p ++ run rest false
run-plain [] rest h = refl
run-plain (c ∷ p) rest h = rw h.0 (ap (λ q. plain_unit c ∷ q) (run-plain p rest h.1))

NoBar-plain : (p : List ℕ) → NonePass (λ c. c == vertical_bar) p → NoBar (map plain_unit p)
NoBar-plain [] h = tt
NoBar-plain (c ∷ p) h = (h.0, NoBar-plain p h.1)

NoBar-append : (us vs : List CellUnit) → NoBar us → NoBar vs → NoBar (us ++ vs)
NoBar-append [] vs h k = k
NoBar-append (u ∷ us) vs h k = (h.0, NoBar-append us vs h.1 k)

reads_part : (front p : List ℕ) (us : List CellUnit) → Reads front us → NonePass (λ c. c == backslash) p → units (front ++ p) ≡ us ++ map plain_unit p
reads_part front p us r back =
    units-run (front ++ p) ∙ ap (λ q. run (front ++ q) false) (sym (append-nil p)) ∙ r.on (p ++ []) ∙ ap (λ q. us ++ q) (run-plain p [] back ∙ append-nil (map plain_unit p))

-- up to a bar that no backslash precedes
pub Reads-bar : (front p more : List ℕ) (us : List CellUnit) → Reads front us → NonePass (λ c. c == backslash) p → NonePass (λ c. c == vertical_bar) p → IsCutAtBar (units (front ++ (p ++ vertical_bar ∷ more))) (units (front ++ p)) (units more)
Reads-bar front p more us r back bar =
    let part = reads_part front p us r back in
    let row : units (front ++ (p ++ vertical_bar ∷ more)) ≡ us ++ (map plain_unit p ++ plain_unit vertical_bar ∷ run more false) = units-run _ ∙ r.on (p ++ vertical_bar ∷ more) ∙ ap (λ q. us ++ q) (run-plain p (vertical_bar ∷ more) back) in
    record {
      parts = row ∙ rw part (rw (units-run more) (sym (append_assoc us (map plain_unit p) (plain_unit vertical_bar ∷ run more false))));
      first = rw part (NoBar-append us (map plain_unit p) r.open_row (NoBar-plain p bar));
    }

-- to the end, where there is no more bar or backslash
pub Reads-end : (front p : List ℕ) (us : List CellUnit) → Reads front us → NonePass (λ c. c == backslash) p → NonePass (λ c. c == vertical_bar) p → NoBar (units (front ++ p))
Reads-end front p us r back bar = rw (reads_part front p us r back) (NoBar-append us (map plain_unit p) r.open_row (NoBar-plain p bar))

-- to the end, where that is a backslash
pub Reads-last : (front p : List ℕ) (us : List CellUnit) → Reads front us → NonePass (λ c. c == backslash) p → NonePass (λ c. c == vertical_bar) p → NoBar (units (front ++ (p ++ backslash ∷ [])))
Reads-last front p us r back bar =
    let row : units (front ++ (p ++ backslash ∷ [])) ≡ us ++ (map plain_unit p ++ plain_unit backslash ∷ []) = units-run _ ∙ r.on (p ++ backslash ∷ []) ∙ ap (λ q. us ++ q) (run-plain p (backslash ∷ []) back) in
    rw row (NoBar-append us (map plain_unit p ++ plain_unit backslash ∷ []) r.open_row (NoBar-append (map plain_unit p) (plain_unit backslash ∷ []) (NoBar-plain p bar) (refl, tt)))

not_bar : (c : ℕ) → escape_meaning c ≡ None → (c == vertical_bar) ≡ false
not_bar c h = grind (arith, common_steps)

abbrev pub after_backslash : ℕ → List CellUnit
after_backslash c = unit_or (escape_meaning c) (plain_unit backslash ∷ plain_unit c ∷ []) []

NoBar-after : (c : ℕ) → NoBar (after_backslash c)
NoBar-after c = option_cases (escape_meaning c) (λ e. rw e (refl, (not_bar c e, tt))) (λ d e. rw e (refl, tt))

unit_or-append : (o : Option ℕ) (c : ℕ) (r : List CellUnit) → unit_or o (plain_unit backslash ∷ plain_unit c ∷ r) r ≡ unit_or o (plain_unit backslash ∷ plain_unit c ∷ []) [] ++ r
unit_or-append None c r = refl
unit_or-append (Some d) c r = refl

-- past a backslash and the character after it
pub Reads-pair : (front p : List ℕ) (c : ℕ) (us : List CellUnit) → Reads front us → NonePass (λ c. c == backslash) p → NonePass (λ c. c == vertical_bar) p → Reads (front ++ (p ++ backslash ∷ c ∷ [])) (us ++ (map plain_unit p ++ after_backslash c))
Reads-pair front p c us r back bar = record {
  on = λ rest.
      let whole : (front ++ (p ++ backslash ∷ c ∷ [])) ++ rest ≡ front ++ (p ++ backslash ∷ c ∷ rest) =
      append_assoc front (p ++ backslash ∷ c ∷ []) rest ∙ ap (λ q. front ++ q) (append_assoc p (backslash ∷ c ∷ []) rest) in
      let joined : (us ++ (map plain_unit p ++ after_backslash c)) ++ run rest false ≡ us ++ (map plain_unit p ++ (after_backslash c ++ run rest false)) =
      append_assoc us (map plain_unit p ++ after_backslash c) (run rest false) ∙ ap (λ q. us ++ q) (append_assoc (map plain_unit p) (after_backslash c) (run rest false)) in
      ap (λ q. run q false) whole ∙ r.on (p ++ backslash ∷ c ∷ rest)
      ∙ ap (λ q. us ++ q) (run-plain p (backslash ∷ c ∷ rest) back ∙ ap (λ q. map plain_unit p ++ q) (unit_or-append (escape_meaning c) c (run rest false)))
      ∙ sym joined;
  open_row = NoBar-append us (map plain_unit p ++ after_backslash c) r.open_row (NoBar-append (map plain_unit p) (after_backslash c) (NoBar-plain p bar) (NoBar-after c));
}

pub units-trimmed : (cs : List ℕ) → units (trimmed_text cs) ≡ drop_spaces (skip_spaces (units cs))
unfolding trimmed_text
units-trimmed cs =
    units-run _ ∙ (run-drop (skip_leading_whitespace cs)).0 ∙ ap drop_spaces (run-skip cs ∙ ap skip_spaces (sym (units-run cs)))

pub leading-units : (cs : List ℕ) → prefix_len is_whitespace cs ≡ prefix_len is_space (units cs)
leading-units cs = run-leading cs ∙ ap (prefix_len is_space) (sym (units-run cs))

pub widths-units : (cs : List ℕ) → widths (units cs) ≡ length cs
widths-units cs = ap widths (units-run cs) ∙ (run-widths cs).0

-- the units of one character, by itself or after a backslash, and those after it
pub run-step : (c : ℕ) (cs : List ℕ) (b : Bool) → (b ≡ true ⊎ (c == backslash) ≡ false) → run (c ∷ cs) b ≡ units (if b then backslash ∷ c ∷ [] else c ∷ []) ++ run cs false
unfolding units
run-step c cs true h = unit_or-append (escape_meaning c) c (run cs false)
run-step c cs false (inl e) = absurd (cc)
run-step c cs false (inr e) = rw e refl

meanings-append : (us vs : List CellUnit) → meanings (us ++ vs) ≡ meanings us ++ meanings vs
meanings-append [] vs = refl
meanings-append (u ∷ us) vs = ap (λ q. u.meaning ∷ q) (meanings-append us vs)

-- without a backslash each character means itself
pub plain_means : (cs : List ℕ) → NonePass (λ c. c == backslash) cs → meanings (units cs) ≡ cs
plain_means cs h = ap (λ q. meanings (units q)) (sym (append-nil cs)) ∙ ap meanings (units-run (cs ++ []) ∙ run-plain cs [] h ∙ append-nil (map plain_unit cs)) ∙ own cs where
  own : (cs : List ℕ) → meanings (map plain_unit cs) ≡ cs
  own [] = refl
  own (c ∷ cs) = ap (λ q. c ∷ q) (own cs)

pub alone_means : (c : ℕ) → meanings (units (c ∷ [])) ≡ c ∷ []
unfolding units
alone_means c = refl

pub pair_means : (c m : ℕ) → Some m ≡ escape_meaning c → meanings (units (backslash ∷ c ∷ [])) ≡ m ∷ []
unfolding units
pair_means c m h = ap (λ o. meanings (unit_or o (plain_unit backslash ∷ plain_unit c ∷ []) [])) (sym h)

pub two_mean : (c : ℕ) → None ≡ escape_meaning c → meanings (units (backslash ∷ c ∷ [])) ≡ backslash ∷ c ∷ []
unfolding units
two_mean c h = ap (λ o. meanings (unit_or o (plain_unit backslash ∷ plain_unit c ∷ []) [])) (sym h)

pub escaped_scalar : (c m : ℕ) → Some m ≡ escape_meaning c → IsScalar m
escaped_scalar c m h = by_test (c == vertical_bar) (c == backslash) (c == letter_n) h where
  by_test : (x y z : Bool) → Some m ≡ cond x (Some vertical_bar) (cond y (Some backslash) (cond z (Some line_feed) None)) → IsScalar m
  by_test true y z e = let is : m ≡ vertical_bar = cc in subst IsScalar (sym is) refl
  by_test false true z e = let is : m ≡ backslash = cc in subst IsScalar (sym is) refl
  by_test false false true e = let is : m ≡ line_feed = cc in subst IsScalar (sym is) refl
  by_test false false false e = absurd (cc)

-- a turn of the loop that reads the units
turn_is : (cs yielded : List ℕ) (c : ℕ) → (length yielded < length cs) × (c ≡ get_or cs (length yielded) c) → drop (length yielded) cs ≡ c ∷ drop (length (yielded ++ c ∷ [])) cs
turn_is cs yielded c at =
    let next : length (yielded ++ c ∷ []) ≡ suc (length yielded) = length-append yielded (c ∷ []) ∙ add-one (length yielded) in
    rw next (drop-cons cs (length yielded) c at.0 ∙ ap (λ q. q ∷ drop (suc (length yielded)) cs) (sym at.1))

pub turn_slash : (value cs yielded whole : List ℕ) (c : ℕ) (e : Bool) → (length yielded < length cs) × (c ≡ get_or cs (length yielded) c) → e ≡ false → c ≡ backslash → value ++ meanings (run (drop (length yielded) cs) e) ≡ whole → value ++ meanings (run (drop (length (yielded ++ c ∷ [])) cs) true) ≡ whole
turn_slash value cs yielded whole c e at alone slash inv =
    let next = drop (length (yielded ++ c ∷ [])) cs in
    let read : run (drop (length yielded) cs) e ≡ run next true =
    ap (λ b. run (drop (length yielded) cs) b) alone ∙ ap (λ q. run q false) (turn_is cs yielded c at) ∙ rw (eq-eqb c backslash slash) refl in
    ap (λ q. value ++ meanings q) (sym read) ∙ inv

pub turn_unit : (value new cs yielded whole : List ℕ) (c : ℕ) (e : Bool) → (length yielded < length cs) × (c ≡ get_or cs (length yielded) c) → (e ≡ true ⊎ (c == backslash) ≡ false) → new ≡ value ++ meanings (units (if e then backslash ∷ c ∷ [] else c ∷ [])) → value ++ meanings (run (drop (length yielded) cs) e) ≡ whole → new ++ meanings (run (drop (length (yielded ++ c ∷ [])) cs) false) ≡ whole
turn_unit value new cs yielded whole c e at alone grown inv =
    let next = drop (length (yielded ++ c ∷ [])) cs in
    let unit = units (if e then backslash ∷ c ∷ [] else c ∷ []) in
    let read : run (drop (length yielded) cs) e ≡ unit ++ run next false =
    ap (λ q. run q e) (turn_is cs yielded c at) ∙ run-step c next e alone in
    ap (λ q. q ++ meanings (run next false)) grown ∙ append_assoc value (meanings unit) (meanings (run next false))
    ∙ ap (λ q. value ++ q) (sym (meanings-append unit (run next false)) ∙ ap meanings (sym read)) ∙ inv

pub turn_end : (value cs whole : List ℕ) (n : ℕ) (e : Bool) → n ≡ length cs → value ++ meanings (run (drop n cs) e) ≡ whole → value ++ meanings (run [] e) ≡ whole
turn_end value cs whole n e end inv = ap (λ q. value ++ meanings (run q e)) (sym (nothing_after cs n end)) ∙ inv where
  nothing_after : (cs : List ℕ) (n : ℕ) → n ≡ length cs → drop n cs ≡ []
  nothing_after cs n end = grind (arith, common_steps)

-- ---- a row cut at its bars

split-bar : (part rest : List CellUnit) → NoBar part → slice_split is_bar (part ++ plain_unit vertical_bar ∷ rest) ≡ part ∷ slice_split is_bar rest
split-bar [] rest h = refl
split-bar (u ∷ part) rest h = rw (h.0, split-bar part rest h.1) refl

split-none : (us : List CellUnit) → NoBar us → slice_split is_bar us ≡ us ∷ []
split-none [] h = refl
split-none (u ∷ us) h = rw (h.0, split-none us h.1) refl

cells_from-cons : (column : ℕ) (part : List CellUnit) (parts : List (List CellUnit)) → 0 < length parts → cells_from column (part ∷ parts) ≡ cell_at column part ∷ cells_from (column + widths part + 1) parts
cells_from-cons column part [] l = absurd (omega arith)
cells_from-cons column part (next ∷ more) l = refl

pub cells-cut : (column : ℕ) (row part rest : List CellUnit) → IsCutAtBar row part rest → cells_from column (slice_split is_bar row) ≡ cell_at column part ∷ cells_from (column + widths part + 1) (slice_split is_bar rest)
cells-cut column row part rest cut =
    ap (λ q. cells_from column (slice_split is_bar q)) cut.parts ∙ ap (cells_from column) (split-bar part rest cut.first)
    ∙ cells_from-cons column part (slice_split is_bar rest) (omega (arith, length-slice_split is_bar rest))

pub cells-none : (column : ℕ) (row : List CellUnit) → NoBar row → cells_from column (slice_split is_bar row) ≡ []
cells-none column row h = ap (cells_from column) (split-none row h)

-- the indent before a row's first bar
indent_parts : (line rest : List ℕ) → skip_leading_whitespace line ≡ vertical_bar ∷ rest → (space : List ℕ) × (line ≡ space ++ vertical_bar ∷ rest) × (length space ≡ prefix_len is_whitespace line) × NonePass (λ c. c == backslash) space × NonePass (λ c. c == vertical_bar) space
indent_parts [] rest h = absurd (cc)
indent_parts (c ∷ cs) rest h =
    test_cases (is_whitespace c)
    (λ e. let more = indent_parts cs rest (ap (λ b. cond b (skip_leading_whitespace cs) (c ∷ cs)) (sym e) ∙ h) in
    let not_bar_space : (c == vertical_bar) ≡ false = ne_eqb c vertical_bar (λ is. absurd (false≢true (ap is_whitespace (sym is) ∙ e))) in
    let long : length (c ∷ more.0) ≡ 1 + prefix_len is_whitespace cs = omega (arith, more.2) in
    (c ∷ more.0, ap (λ q. c ∷ q) more.1, long ∙ sym (ap (λ b. cond b (1 + prefix_len is_whitespace cs) 0) e), (space_other c e, more.3), (not_bar_space, more.4)))
    (λ e. ([], ap (λ b. cond b (skip_leading_whitespace cs) (c ∷ cs)) (sym e) ∙ h, sym (ap (λ b. cond b (1 + prefix_len is_whitespace cs) 0) e), tt, tt))

-- the row after its indent and first bar
pub cells-body : (line rest : List ℕ) → text_after_indent line ≡ vertical_bar ∷ rest → cells_of line ≡ cells_from (indent_of line + 1 + 1) (slice_split is_bar (units rest))
unfolding cells_of text_after_indent indent_of
cells-body line rest h =
    let parts = indent_parts line rest h in
    let cut = Reads-bar [] parts.0 rest [] Reads-nil parts.3 parts.4 in
    let column : 1 + widths (units parts.0) + 1 ≡ prefix_len is_whitespace line + 1 + 1 = omega (arith, widths-units parts.0, parts.2) in
    ap (λ q. without_first (cells_from 1 (slice_split is_bar (units q)))) parts.1
    ∙ ap without_first (cells-cut 1 (units (parts.0 ++ vertical_bar ∷ rest)) (units parts.0) (units rest) cut)
    ∙ ap (λ n. cells_from n (slice_split is_bar (units rest))) column

-- a turn of the loop over the cells
pub turn_cell : (old : List Cell) (cell : Cell) (column count : ℕ) (row part rest : List CellUnit) (whole : List CellText) → IsCutAtBar row part rest → cell_text cell ≡ cell_at column part → count ≡ widths part → map cell_text old ++ cells_from column (slice_split is_bar row) ≡ whole → map cell_text (old ++ cell ∷ []) ++ cells_from (column + (count + 1)) (slice_split is_bar rest) ≡ whole
turn_cell old cell column count row part rest whole cut is_cell is_count inv =
    let later = cells_from (column + widths part + 1) (slice_split is_bar rest) in
    let next : column + (count + 1) ≡ column + widths part + 1 = omega (arith, is_count) in
    ap (λ n. map cell_text (old ++ cell ∷ []) ++ cells_from n (slice_split is_bar rest)) next
    ∙ ap (λ q. q ++ later) (texts-append old cell) ∙ append_assoc (map cell_text old) (cell_text cell ∷ []) later
    ∙ ap (λ q. map cell_text old ++ q) (ap (λ q. q ∷ later) is_cell ∙ sym (cells-cut column row part rest cut)) ∙ inv where
      texts-append : (old : List Cell) (cell : Cell) → map cell_text (old ++ cell ∷ []) ≡ map cell_text old ++ cell_text cell ∷ []
      texts-append [] cell = refl
      texts-append (o ∷ old) cell = ap (λ q. cell_text o ∷ q) (texts-append old cell)

-- one more cell whose value is UTF-8
pub utf8_more : (old : List Cell) (cell : Cell) → AllByRecursion (λ (c : Cell). IsUtf8 c.value) old → IsUtf8 cell.value → AllByRecursion (λ (c : Cell). IsUtf8 c.value) (old ++ cell ∷ [])
utf8_more [] cell h u = (u, tt)
utf8_more (o ∷ old) cell h u = (h.0, utf8_more old cell h.1 u)

pub cells-end : (old : List Cell) (column : ℕ) (row : List CellUnit) (whole : List CellText) → NoBar row → map cell_text old ++ cells_from column (slice_split is_bar row) ≡ whole → map cell_text old ≡ whole
cells-end old column row whole none inv =
    sym (append-nil (map cell_text old)) ∙ ap (λ q. map cell_text old ++ q) (sym (cells-none column row none)) ∙ inv

-- a row begins with a bar
pub no_row : (line body : List ℕ) → begins_by (codes "|") line ≡ true → body ≡ text_after_indent line → None ≡ after (codes "|") body → ⊥
unfolding begins_by
no_row line body row is none = false≢true (ap is_some (none ∙ ap (after (codes "|")) is) ∙ row)

pub row_start : (line body rest : List ℕ) → body ≡ text_after_indent line → Some rest ≡ after (codes "|") body → cells_of line ≡ cells_from (indent_of line + 1 + 1) (slice_split is_bar (units rest))
row_start line body rest is some = cells-body line rest (sym is ∙ after-some (codes "|") body rest (sym some))
