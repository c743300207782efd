-- What is a text of the grammar, the machine takes, and makes its document.
use Rattle.std.proofs.Common.{◌≡◌, ℕ, suc, ◌+◌, Bool, List, [], ◌∷◌, ◌++◌, length, Option, Some, None, Result, Ok, Err, refl, sym, ap, ◌∙◌, append_assoc, append-nil, add-zero, add_assoc, arith, length-append}
use Rattle.std.proofs.lemmas.Bool.{eq-eqb}
use Rattle.std.specs.Prelude.{IsTrue, IsFalse, cond}
use Rattle.std.specs.List.{AllByRecursion, flat_map}
use Rattle.gk_document.specs.declared.tree.Cell.{Cell}
use Rattle.gk_line.specs.declared.tokens.Block.{Block}
use Rattle.gk_grammar.specs.declared.fault.FaultKind.TheVariants as kind
use Rattle.gk_document.specs.declared.tree.KeywordType.{KeywordType}
use Rattle.gk_grammar.specs.Token.{Utf8, Blank, Comment, Language, Step, Row, Fenced, Line, line, is_gap}
use Rattle.gk_grammar.specs.Tree as tree
use Rattle.gk_grammar.specs.Tree.{Tag, Argument, DocString}
use Rattle.gk_document.specs.declared.tree.Argument.TheVariants.{Table, Text as Quoted}
use Rattle.gk_grammar.specs.Grammar.{Piece, Then, Nothing, Each, AtMostOne, OneLine, comments_of, IsStep, IsStepLine, IsArgument, IsTable, IsRow, IsDocString, is_fence, at, Node, step_nodes, row_nodes, argument_nodes}
use Rattle.gk_grammar.specs.Machine.{FlatBlock, OpenDocString, Phase, AfterTags, AfterStep, InDocString, InExamplesTable, State, PlacedFault, next, run, ◌>>=◌, count_of, another_row, step_at, with_doc_string, doc_string, step_fence}
use Rattle.gk_grammar.proofs.Pieces.{comments_of-append}

abbrev pub state_of : List tree.Comment → ℕ → List FlatBlock → Phase → State
state_of cs n ch p = record { comments = cs; nodes = n; flat_blocks = ch; phase = p }

-- Reading a piece leads from one phase to another, over k nodes from the number n on.
abbrev pub Reads : Piece → List FlatBlock → Phase → (n k : ℕ) → List FlatBlock → Phase → Type 0
Reads P ch p n k dh q = (ls : List Line) (cs : List tree.Comment) → P ls cs → (before : List tree.Comment) (rest : List Line) →
    run (state_of before n ch p) (ls ++ rest) ≡ run (state_of (before ++ cs) (n + k) dh q) rest

-- a comment or a blank line changes nothing else
abbrev pub Idle : Phase → Type 0
Idle p = (cs : List tree.Comment) (n : ℕ) (ch : List FlatBlock) (l : Line) → IsTrue (is_gap l) → next (state_of cs n ch p) l ≡ Ok (state_of (cs ++ comments_of (l ∷ [])) n ch p)

pub idle_tagged : (b : Option Block) (tags : List Tag) → Idle (AfterTags b tags)
idle_tagged b tags cs n ch (line m t i Blank) g = refl
idle_tagged b tags cs n ch (line m t i Comment) g = refl
idle_tagged b tags cs n ch (line m t i (Language w)) g = refl
idle_tagged b tags cs n ch (line m t i _) g = absurd cc

pub idle_stepping : (c : FlatBlock) (before : List tree.Step) (last : tree.Step) → Idle (AfterStep c before last)
idle_stepping c before last cs n ch (line m t i Blank) g = refl
idle_stepping c before last cs n ch (line m t i Comment) g = refl
idle_stepping c before last cs n ch (line m t i (Language w)) g = refl
idle_stepping c before last cs n ch (line m t i _) g = absurd cc

pub idle_listing : (c : FlatBlock) (rows : List tree.Row) → Idle (InExamplesTable c rows)
idle_listing c rows cs n ch (line m t i Blank) g = refl
idle_listing c rows cs n ch (line m t i Comment) g = refl
idle_listing c rows cs n ch (line m t i (Language w)) g = refl
idle_listing c rows cs n ch (line m t i _) g = absurd cc

pub run_gap : (p : Phase) → Idle p → (ls : List Line) → AllByRecursion (λ l. IsTrue (is_gap l)) ls → (cs : List tree.Comment) (n : ℕ) (ch : List FlatBlock) (rest : List Line) →
    run (state_of cs n ch p) (ls ++ rest) ≡ run (state_of (cs ++ comments_of ls) n ch p) rest
run_gap p idle [] a cs n ch rest = rw append-nil
run_gap p idle (l ∷ ls) a cs n ch rest =
    ap (λ (r : Result State PlacedFault). r >>= λ x. run x (ls ++ rest)) (idle cs n ch l a.0) ∙ run_gap p idle ls a.1 (cs ++ comments_of (l ∷ [])) n ch rest
    ∙ ap (λ (c : List tree.Comment). run (state_of c n ch p) rest) (append_assoc cs (comments_of (l ∷ [])) (comments_of ls) ∙ ap (λ (c : List tree.Comment). cs ++ c) (sym (comments_of-append (l ∷ []) ls)))

-- one piece after another
pub reads_then : (P Q : Piece) (ch dh eh : List FlatBlock) (p q r : Phase) (n k j : ℕ) → Reads P ch p n k dh q → Reads Q dh q (n + k) j eh r → Reads (Then P Q) ch p n (k + j) eh r
reads_then P Q ch dh eh p q r n k j f g ls cs t before rest =
    ap (λ (x : List Line). run (state_of before n ch p) x) (ap (λ (x : List Line). x ++ rest) t.cut ∙ append_assoc t.front t.back rest)
    ∙ f t.front t.front_comments t.first before (t.back ++ rest)
    ∙ g t.back t.back_comments t.second (before ++ t.front_comments) rest
    ∙ ap (λ (x : List tree.Comment). run (state_of x (n + k + j) eh r) rest) (append_assoc before t.front_comments t.back_comments ∙ ap (λ (x : List tree.Comment). before ++ x) (sym t.comments))
    ∙ ap (λ (x : ℕ). run (state_of (before ++ cs) x eh r) rest) (add_assoc n k j)

pub reads_nothing : (ch : List FlatBlock) (p : Phase) (n : ℕ) → Reads Nothing ch p n 0 ch p
reads_nothing ch p n ls cs e before rest =
    ap (λ (x : List Line). run (state_of before n ch p) (x ++ rest)) e.0 ∙ ap (λ (x : List tree.Comment). run (state_of x n ch p) rest) (sym (append-nil before) ∙ ap (λ (x : List tree.Comment). before ++ x) (sym e.1))
    ∙ ap (λ (x : ℕ). run (state_of (before ++ cs) x ch p) rest) (sym (add-zero n))

-- a line and the gap after it
pub reads_line : (P : Line → Type 0) (ch dh : List FlatBlock) (p q : Phase) (n k : ℕ) →
    ((l : Line) → P l → (cs : List tree.Comment) → next (state_of cs n ch p) l ≡ Ok (state_of cs (n + k) dh q)) → Idle q → Reads (OneLine P) ch p n k dh q
reads_line P ch dh p q n k f idle [] cs h before rest = absurd h
reads_line P ch dh p q n k f idle (l ∷ ls) cs h before rest =
    ap (λ (r : Result State PlacedFault). r >>= λ x. run x (ls ++ rest)) (f l h.0 before) ∙ run_gap q idle ls h.1.0 before (n + k) dh rest
    ∙ ap (λ (c : List tree.Comment). run (state_of (before ++ c) (n + k) dh q) rest) (sym h.1.1)

-- ---- numbers

-- these numbers, one after another from n on
abbrev pub Counts : ℕ → List Node → Type 0
Counts n [] = Unit {0}
Counts n (x ∷ xs) = (x.1 ≡ n) × Counts (n + 1) xs

pub counts_apart : (n : ℕ) (xs ys : List Node) → Counts n (xs ++ ys) → Counts n xs × Counts (n + length xs) ys
counts_apart n [] ys h = (tt, rw add-zero h)
counts_apart n (x ∷ xs) ys h = let r = counts_apart (n + 1) xs ys h.1 in ((h.0, r.0), let e : n + 1 + length xs ≡ n + length (x ∷ xs) = omega arith in rw e at r.1)

-- ---- rows

pub row_is : (r s : tree.Row) → r.node ≡ s.node → r.location ≡ s.location → r.cells ≡ s.cells → r ≡ s
row_is r s a b c = λ i. record { node = a i; location = b i; cells = c i }

-- phases that take rows
pub record TakesRows (phase : List tree.Row → Phase) : Type 0 where
  pub idle : (rows : List tree.Row) → Idle (phase rows)
  pub row : (rows : List tree.Row) (cs : List tree.Comment) (n : ℕ) (ch : List FlatBlock) (m i : ℕ) (t : Utf8) (cells : List Cell) →
      next (state_of cs n ch (phase rows)) (line m t i (Row cells)) ≡ another_row (state_of cs n ch (phase rows)) phase rows m i cells

another_row_is : (phase : List tree.Row → Phase) → TakesRows phase → (rows : List tree.Row) (r : tree.Row) (n : ℕ) (ch : List FlatBlock) → r.node ≡ n → length r.cells ≡ count_of rows →
    (l : Line) → IsRow r l → (cs : List tree.Comment) → next (state_of cs n ch (phase rows)) l ≡ Ok (state_of cs (n + 1) ch (phase (rows ++ r ∷ [])))
another_row_is phase takes rows r n ch e c (line m t i (Row cells)) h cs =
    takes.row rows cs n ch m i t cells
    ∙ ap (λ (b : Bool). cond b (Ok (state_of cs (n + 1) ch (phase (rows ++ record { node = n; location = at m (i + 1); cells = cells } ∷ [])))) (Err (record { kind = kind.CellCount; line = m; column = i + 1 }))) (eq-eqb _ _ (ap (λ (x : List Cell). length x) (sym h.1) ∙ c))
    ∙ ap (λ (x : tree.Row). Ok (state_of cs (n + 1) ch (phase (rows ++ x ∷ [])))) (sym (row_is r (record { node = n; location = at m (i + 1); cells = cells }) e h.0 h.1))
another_row_is phase takes rows r n ch e c (line m t i _) h cs = absurd h

pub to_phase : (P : Piece) (ch dh : List FlatBlock) (p : Phase) (n k j : ℕ) (q r : Phase) → k ≡ j → q ≡ r → Reads P ch p n k dh q → Reads P ch p n j dh r
to_phase P ch dh p n k j q r e f h ls cs t before rest =
    h ls cs t before rest ∙ ap (λ (x : ℕ). run (state_of (before ++ cs) (n + x) dh q) rest) e ∙ ap (λ (x : Phase). run (state_of (before ++ cs) (n + j) dh x) rest) f

reads_rows : (phase : List tree.Row → Phase) → TakesRows phase → (a : tree.Row) (rs got : List tree.Row) (n : ℕ) (ch : List FlatBlock) →
    AllByRecursion (λ (x : tree.Row). length x.cells ≡ length a.cells) rs → Counts n (row_nodes rs) →
    Reads (Each (λ x. OneLine (IsRow x)) rs) ch (phase (a ∷ got)) n (length rs) ch (phase (a ∷ got ++ rs))
reads_rows phase takes a [] got n ch e c =
    to_phase Nothing ch ch (phase (a ∷ got)) n 0 0 (phase (a ∷ got)) (phase (a ∷ got ++ [])) refl (ap (λ (x : List tree.Row). phase (a ∷ x)) (sym (append-nil got))) (reads_nothing ch (phase (a ∷ got)) n)
reads_rows phase takes a (r ∷ rs) got n ch e c =
    to_phase (Each (λ x. OneLine (IsRow x)) (r ∷ rs)) ch ch (phase (a ∷ got)) n (1 + length rs) (length (r ∷ rs)) (phase (a ∷ (got ++ r ∷ []) ++ rs)) (phase (a ∷ got ++ r ∷ rs))
    (omega arith) (ap (λ (x : List tree.Row). phase (a ∷ x)) (append_assoc got (r ∷ []) rs))
    (reads_then (OneLine (IsRow r)) (Each (λ x. OneLine (IsRow x)) rs) ch ch ch (phase (a ∷ got)) (phase (a ∷ got ++ r ∷ [])) (phase (a ∷ (got ++ r ∷ []) ++ rs)) n 1 (length rs)
    (reads_line (IsRow r) ch ch (phase (a ∷ got)) (phase (a ∷ got ++ r ∷ [])) n 1 (another_row_is phase takes (a ∷ got) r n ch c.0 e.0) (takes.idle (a ∷ got ++ r ∷ [])))
    (reads_rows phase takes a rs (got ++ r ∷ []) (n + 1) ch e.1 c.1))

-- a whole table, where its first row leads to it
pub reads_table : (phase : List tree.Row → Phase) → TakesRows phase → (rows : List tree.Row) (p : Phase) (n : ℕ) (ch dh : List FlatBlock) → Counts n (row_nodes rows) →
    ((r : tree.Row) (l : Line) → r.node ≡ n → IsRow r l → (cs : List tree.Comment) → next (state_of cs n ch p) l ≡ Ok (state_of cs (n + 1) dh (phase (r ∷ [])))) →
    Reads (IsTable rows) ch p n (length rows) dh (phase rows)
reads_table phase takes [] p n ch dh c f ls cs t before rest = absurd t
reads_table phase takes (r ∷ rs) p n ch dh c f ls cs t before rest =
    to_phase (Each (λ x. OneLine (IsRow x)) (r ∷ rs)) ch dh p n (1 + length rs) (length (r ∷ rs)) (phase (r ∷ rs)) (phase (r ∷ rs)) (omega arith) refl
    (reads_then (OneLine (IsRow r)) (Each (λ x. OneLine (IsRow x)) rs) ch dh dh p (phase (r ∷ [])) (phase (r ∷ rs)) n 1 (length rs)
    (reads_line (IsRow r) ch dh p (phase (r ∷ [])) n 1 (λ l h us. f r l c.0 h us) (takes.idle (r ∷ [])))
    (reads_rows phase takes r rs [] (n + 1) dh t.0 c.1)) ls cs t.1 before rest

-- ---- doc strings

run_inside : (c : FlatBlock) (steps : List tree.Step) (last : tree.Step) (q : OpenDocString) (inside got : List Line) → AllByRecursion (λ l. IsFalse (is_fence q.fence l)) inside →
    (cs : List tree.Comment) (n : ℕ) (ch : List FlatBlock) (rest : List Line) →
    run (state_of cs n ch (InDocString c steps last q got)) (inside ++ rest) ≡ run (state_of cs n ch (InDocString c steps last q (got ++ inside))) rest
run_inside c steps last q [] got a cs n ch rest = ap (λ (x : List Line). run (state_of cs n ch (InDocString c steps last q x)) rest) (sym (append-nil got))
run_inside c steps last q (l ∷ ls) got a cs n ch rest =
    ap (λ (b : Bool). cond b (Ok (state_of cs n ch (AfterStep c steps (with_doc_string last q got)))) (Ok (state_of cs n ch (InDocString c steps last q (got ++ l ∷ [])))) >>= λ x. run x (ls ++ rest)) a.0
    ∙ run_inside c steps last q ls (got ++ l ∷ []) a.1 cs n ch rest
    ∙ ap (λ (x : List Line). run (state_of cs n ch (InDocString c steps last q x)) rest) (append_assoc got (l ∷ []) ls)

doc_is : (a b : DocString) → a.location ≡ b.location → a.media ≡ b.media → a.content ≡ b.content → a.fence ≡ b.fence → a ≡ b
doc_is a b p q r s = λ i. record { location = p i; media = q i; content = r i; fence = s i }

reads_doc_string : (c : FlatBlock) (steps : List tree.Step) (last : tree.Step) → last.argument ≡ None → (d : DocString) (n : ℕ) (ch : List FlatBlock) →
    Reads (IsDocString d) ch (AfterStep c steps last) n 0 ch (AfterStep c steps (record last { argument = Some (Quoted d) }))
reads_doc_string c steps last e d n ch [] cs t before rest = absurd t
reads_doc_string c steps last e d n ch (line m x i (Fenced f media) ∷ ls) cs t before rest =
    let w = t.3 in
    let q : OpenDocString = record { place = at m (i + 1); fence = f; media = media; indent = i } in
    ap (λ (a : Option Argument). step_fence (state_of before n ch (AfterStep c steps last)) c steps last a m i f media >>= λ y. run y (ls ++ rest)) e
    ∙ ap (λ (y : List Line). run (state_of before n ch (InDocString c steps last q [])) y) (ap (λ (y : List Line). y ++ rest) w.cut ∙ append_assoc w.inside (w.close ∷ w.gap) rest)
    ∙ run_inside c steps last q w.inside [] w.open_yet before n ch (w.close ∷ w.gap ++ rest)
    ∙ ap (λ (b : Bool). cond b (Ok (state_of before n ch (AfterStep c steps (with_doc_string last q w.inside)))) (Ok (state_of before n ch (InDocString c steps last q (w.inside ++ w.close ∷ [])))) >>= λ y. run y (w.gap ++ rest)) w.closed
    ∙ run_gap (AfterStep c steps (with_doc_string last q w.inside)) (idle_stepping c steps (with_doc_string last q w.inside)) w.gap w.gap_after.0 before n ch rest
    ∙ ap (λ (y : List tree.Comment). run (state_of (before ++ y) n ch (AfterStep c steps (with_doc_string last q w.inside))) rest) (sym w.gap_after.1)
    ∙ ap (λ (y : DocString). run (state_of (before ++ cs) n ch (AfterStep c steps (record last { argument = Some (Quoted y) }))) rest) (doc_is (doc_string q w.inside) d (sym t.0) (sym t.2) (sym w.value) (sym t.1))
    ∙ ap (λ (y : ℕ). run (state_of (before ++ cs) y ch (AfterStep c steps (record last { argument = Some (Quoted d) }))) rest) (sym (add-zero n))
reads_doc_string c steps last e d n ch (line m x i _ ∷ ls) cs t before rest = absurd t

-- ---- steps

step_is : (a b : tree.Step) → a.node ≡ b.node → a.location ≡ b.location → a.keyword ≡ b.keyword → a.kind ≡ b.kind → a.text ≡ b.text → a.argument ≡ b.argument → a ≡ b
step_is a b p q r s t u = λ i. record { node = p i; location = q i; keyword = r i; kind = s i; text = t i; argument = u i }

-- a step before its argument is read
abbrev pub bare : tree.Step → tree.Step
bare s = record s { argument = None }

takes_step_rows : (c : FlatBlock) (steps : List tree.Step) (last : tree.Step) → TakesRows (λ rows. AfterStep c steps (record last { argument = Some (Table rows) }))
takes_step_rows c steps last = record { idle = λ rows. idle_stepping c steps (record last { argument = Some (Table rows) }); row = λ rows cs n ch m i t cells. refl }

reads_argument : (c : FlatBlock) (steps : List tree.Step) (s : tree.Step) (a : Option Argument) (n : ℕ) (ch : List FlatBlock) → Counts n (argument_nodes a) →
    Reads (AtMostOne IsArgument a) ch (AfterStep c steps (bare s)) n (length (argument_nodes a)) ch (AfterStep c steps (record s { argument = a }))
reads_argument c steps s None n ch k = reads_nothing ch (AfterStep c steps (bare s)) n
reads_argument c steps s (Some (Quoted d)) n ch k = reads_doc_string c steps (bare s) refl d n ch
reads_argument c steps s (Some (Table rows)) n ch k =
    to_phase (IsTable rows) ch ch (AfterStep c steps (bare s)) n (length rows) (length (row_nodes rows)) (AfterStep c steps (record s { argument = Some (Table rows) })) (AfterStep c steps (record s { argument = Some (Table rows) })) (rows_length rows) refl
    (reads_table (λ rs. AfterStep c steps (record s { argument = Some (Table rs) })) (takes_step_rows c steps s) rows (AfterStep c steps (bare s)) n ch ch k
    (λ r l e h cs. first r l e h cs))
  where
    rows_length : (rs : List tree.Row) → length rs ≡ length (row_nodes rs)
    rows_length [] = refl
    rows_length (r ∷ rs) = ap suc (rows_length rs)

    first : (r : tree.Row) (l : Line) → r.node ≡ n → IsRow r l → (cs : List tree.Comment) →
        next (state_of cs n ch (AfterStep c steps (bare s))) l ≡ Ok (state_of cs (n + 1) ch (AfterStep c steps (record s { argument = Some (Table (r ∷ [])) })))
    first r (line m t i (Row cells)) e h cs = ap (λ (x : tree.Row). Ok (state_of cs (n + 1) ch (AfterStep c steps (record s { argument = Some (Table (x ∷ [])) })))) (sym (row_is r (record { node = n; location = at m (i + 1); cells = cells }) e h.0 h.1))
    first r (line m t i _) e h cs = absurd h

-- a phase in which a step line begins a step after these
abbrev pub Begins : Phase → FlatBlock → List tree.Step → Type 0
Begins p c steps = (cs : List tree.Comment) (n : ℕ) (ch : List FlatBlock) (m i : ℕ) (t k : Utf8) (y : KeywordType) (x : Utf8) →
    next (state_of cs n ch p) (line m t i (Step k y x)) ≡ Ok (state_of cs (n + 1) ch (AfterStep c steps (step_at (state_of cs n ch p) m i k y x)))

pub reads_step : (p : Phase) (c : FlatBlock) (steps : List tree.Step) → Begins p c steps → (s : tree.Step) (n : ℕ) (ch : List FlatBlock) → Counts n (step_nodes s) →
    Reads (IsStep s) ch p n (length (step_nodes s)) ch (AfterStep c steps s)
reads_step p c steps b s n ch k =
    to_phase (IsStep s) ch ch p n (1 + length (argument_nodes s.argument)) (length (step_nodes s)) (AfterStep c steps s) (AfterStep c steps s) (omega arith) refl
    (reads_then (OneLine (IsStepLine s)) (AtMostOne IsArgument s.argument) ch ch ch p (AfterStep c steps (bare s)) (AfterStep c steps s) n 1 (length (argument_nodes s.argument))
    (reads_line (IsStepLine s) ch ch p (AfterStep c steps (bare s)) n 1 (λ l h cs. first l h cs) (idle_stepping c steps (bare s)))
    (reads_argument c steps s s.argument (n + 1) ch k.1))
  where
    first : (l : Line) → IsStepLine s l → (cs : List tree.Comment) → next (state_of cs n ch p) l ≡ Ok (state_of cs (n + 1) ch (AfterStep c steps (bare s)))
    first (line m t i (Step kw y x)) h cs = b cs n ch m i t kw y x ∙ ap (λ (z : tree.Step). Ok (state_of cs (n + 1) ch (AfterStep c steps z))) (step_is (step_at (state_of cs n ch p) m i kw y x) (bare s) (sym k.0) (sym h.0) (sym h.1) (sym h.2) (sym h.3) refl)
    first (line m t i _) h cs = absurd h

-- the phase after more steps
abbrev pub after_steps : FlatBlock → List tree.Step → tree.Step → List tree.Step → Phase
after_steps c steps last [] = AfterStep c steps last
after_steps c steps last (s ∷ ss) = after_steps c (steps ++ last ∷ []) s ss

-- more steps
pub reads_more_steps : (c : FlatBlock) (steps : List tree.Step) (last : tree.Step) (more : List tree.Step) (n : ℕ) (ch : List FlatBlock) → Counts n (flat_map step_nodes more) →
    (q : Phase) → after_steps c steps last more ≡ q → Reads (Each IsStep more) ch (AfterStep c steps last) n (length (flat_map step_nodes more)) ch q
reads_more_steps c steps last [] n ch k q e = to_phase Nothing ch ch (AfterStep c steps last) n 0 0 (AfterStep c steps last) q refl e (reads_nothing ch (AfterStep c steps last) n)
reads_more_steps c steps last (s ∷ ss) n ch k q e =
    let ks = counts_apart n (step_nodes s) (flat_map step_nodes ss) k in
    to_phase (Each IsStep (s ∷ ss)) ch ch (AfterStep c steps last) n (length (step_nodes s) + length (flat_map step_nodes ss)) (length (flat_map step_nodes (s ∷ ss))) q q (sym (length-append (step_nodes s) (flat_map step_nodes ss))) refl
    (reads_then (IsStep s) (Each IsStep ss) ch ch ch (AfterStep c steps last) (AfterStep c (steps ++ last ∷ []) s) q n (length (step_nodes s)) (length (flat_map step_nodes ss))
    (reads_step (AfterStep c steps last) c (steps ++ last ∷ []) (λ cs m dh a i t kw y x. refl) s n ch ks.0)
    (reads_more_steps c (steps ++ last ∷ []) s ss (n + length (step_nodes s)) ch ks.1 q e))
