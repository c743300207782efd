-- What the end of a run says of the text, in the terms of the grammar.
use Rattle.std.proofs.Common.{◌≡◌, ◌≢◌, ◌↔◌, ℕ, ◌+◌, ◌∷◌, map, List, Option, Some, None, Result, Ok, Err, IfErr, length, refl, sym, ap, subst, ◌∙◌, inl, inr}
use Rattle.gk_grammar.specs.declared.fault.FaultKind.{FaultKind}
use Rattle.gk_grammar.specs.declared.fault.FaultKind.TheVariants as kind
use Rattle.gk_grammar.specs.Token.{Line, line, line_of, Blank, Comment, Language, Tags, Title, Step, Row, Fenced, Other}
use Rattle.gk_grammar.specs.Tree.{Document}
use Rattle.gk_grammar.specs.Place.{IsFaultAt}
use Rattle.gk_grammar.specs.Machine as machine
use Rattle.gk_grammar.specs.Machine.{State, PlacedFault, run, next, initial_state, blocks_at_end, ◌>>=◌}
use Rattle.gk_grammar.specs.Assembly.{document_of}
use Rattle.gk_grammar.specs.Documents.{lines_read, IsDocumentOf, HasFault, IsTooLong}
use Rattle.gk_grammar.proofs.LawLemmas.{whole_run, stopped_run, open_run}
use Rattle.gk_tree.specs.declared.fault.ParseFault.{ParseFault}
use Rattle.gk_tree.specs.Views.{Gives, placed_fault, out_of_memory, too_long}
use Rattle.gk_tree.specs.Ends.{last_blocks, document_at, Answers}

-- ---- a line of a run

pub turn_run : (all : Result State PlacedFault) (s t : State) (ls rest : List (ℕ × List ℕ)) (x : ℕ × List ℕ) → all ≡ run s (map line_of ls) → ls ≡ x ∷ rest → next s (line_of x) ≡ Ok t → all ≡ run t (map line_of rest)
turn_run all s t ls rest x e h k =
    e ∙ ap (λ (z : List (ℕ × List ℕ)). run s (map line_of z)) h ∙ ap (λ (z : Result State PlacedFault). z >>= λ (y : State). run y (map line_of rest)) k

-- ---- the answer

pub whole_answer : (text : List ℕ) (later : ℕ) (s : State) (r : Result Document ParseFault) → run initial_state (lines_read text) ≡ Ok s → later ≡ length (lines_read text) + 1 → Gives (λ (d : Document). d) r (document_at later s) → Answers text r
whole_answer text later s r e b h = go r (blocks_at_end s.phase) refl h
  where
    go : (r : Result Document ParseFault) (o : Option (List machine.FlatBlock)) → blocks_at_end s.phase ≡ o → Gives (λ (d : Document). d) r (last_blocks later o >>= λ last. Ok (document_of s last)) → Answers text r
    go (Ok d) (Some last) f h = let same : document_of s last ≡ d = cc in subst (λ (z : Document). IsDocumentOf text z) same (whole_run text s last e f).doc
    go (Ok d) None f h = absurd cc
    go (Err g) (Some last) f (inl m) = inl m
    go (Err g) (Some last) f (inr h) = absurd cc
    go (Err g) None f (inl m) = inl m
    go (Err g) None f (inr h) =
        let same : record { kind = kind.UnexpectedEnd; line = later; column = 1 } ≡ placed_fault g = cc in
        inr (subst (λ (z : PlacedFault). HasFault text z.kind z.line z.column) same (subst (λ (n : ℕ). HasFault text kind.UnexpectedEnd n 1) (sym b) (open_run text s e f)))

pub stop_answer : (text : List ℕ) (f : ParseFault) → Gives {X = State} (λ s. s) (Err f) (run initial_state (lines_read text)) → Answers text (Err f)
stop_answer text f (inl m) = inl m
stop_answer text f (inr h) = inr (stopped_run text (placed_fault f) h)

-- ---- the kinds of a text's fault

IsOfText : FaultKind → Type 0
IsOfText k = (k ≢ kind.Memory) × (k ≢ kind.TooLong)

of_text : (k j : FaultKind) → k ≡ j → IsOfText j → IsOfText k
of_text k j e h = subst IsOfText (sym e) h

unexpected : IsOfText kind.Unexpected
unfolding IsOfText
unexpected = ((λ e. absurd cc), (λ e. absurd cc))

at_line : (before : List Line) (l : Line) (k : FaultKind) (column : ℕ) → IsFaultAt before l k column → IsOfText k
unfolding IsOfText
at_line before (line n t i (Tags (Err c))) k column h = of_text k kind.TagSpace h.0 ((λ e. absurd cc), (λ e. absurd cc))
at_line before (line n t i (Tags (Ok words))) k column h = of_text k kind.Unexpected h.0 unexpected
at_line before (line n t i (Language w)) k column h = of_text k kind.UnsupportedLanguage h.1 ((λ e. absurd cc), (λ e. absurd cc))
at_line before (line n t i (Row cells)) k column (inl d, c) = of_text k kind.CellCount d.1 ((λ e. absurd cc), (λ e. absurd cc))
at_line before (line n t i (Row cells)) k column (inr d, c) = of_text k kind.Unexpected d.1 unexpected
at_line before (line n t i Blank) k column h = of_text k kind.Unexpected h.0 unexpected
at_line before (line n t i Comment) k column h = of_text k kind.Unexpected h.0 unexpected
at_line before (line n t i (Title b w m)) k column h = of_text k kind.Unexpected h.0 unexpected
at_line before (line n t i (Step w y m)) k column h = of_text k kind.Unexpected h.0 unexpected
at_line before (line n t i (Fenced f media)) k column h = of_text k kind.Unexpected h.0 unexpected
at_line before (line n t i Other) k column h = of_text k kind.Unexpected h.0 unexpected

kind_of_text : (text : List ℕ) (k : FaultKind) (n column : ℕ) → HasFault text k n column → IsOfText k
unfolding IsOfText
kind_of_text text k n column (inl h) = at_line h.before h.at k column h.what
kind_of_text text k n column (inr h) = of_text k kind.UnexpectedEnd h.what ((λ e. absurd cc), (λ e. absurd cc))

-- ---- each fault

pub no_other_fault : (text : List ℕ) (r : Result Document ParseFault) → Answers text r → IfErr r (λ f. f.kind ≢ kind.Memory → f.kind ≢ kind.TooLong → HasFault text f.kind f.line f.column)
no_other_fault text (Ok d) h = tt
no_other_fault text (Err f) (inl m) = λ a b. absurd (a (ap (λ (z : ParseFault). z.kind) m))
no_other_fault text (Err f) (inr h) = λ a b. h

pub memory_fault : (text : List ℕ) (r : Result Document ParseFault) → Answers text r → IfErr r (λ f. f.kind ≡ kind.Memory → f ≡ out_of_memory)
unfolding IsOfText
memory_fault text (Ok d) h = tt
memory_fault text (Err f) (inl m) = λ e. m
memory_fault text (Err f) (inr h) = λ e. absurd ((kind_of_text text f.kind f.line f.column h).0 e)

pub never_too_long : (text : List ℕ) (r : Result Document ParseFault) → Answers text r → IfErr r (λ f. f.kind ≢ kind.TooLong)
unfolding IsOfText
never_too_long text (Ok d) h = tt
never_too_long text (Err f) (inl m) = λ e. absurd cc
never_too_long text (Err f) (inr h) = (kind_of_text text f.kind f.line f.column h).1

pub too_long_fault : (text : List ℕ) (r : Result Document ParseFault) → Answers text r → IfErr r (λ f. f.kind ≡ kind.TooLong → f ≡ too_long)
too_long_fault text (Ok d) h = tt
too_long_fault text (Err f) h = λ e. absurd (never_too_long text (Err f) h e)

pub no_too_long : (text : List ℕ) (r : Result Document ParseFault) → Answers text r → (IsTooLong text → ⊥) → (r ≡ Err too_long) ↔ IsTooLong text
no_too_long text (Ok d) h k = ((λ e. absurd cc), (λ t. absurd (k t)))
no_too_long text (Err f) h k = ((λ (e : Err f ≡ Err too_long). let same : f ≡ too_long = cc in absurd (never_too_long text (Err f) h (ap (λ (z : ParseFault). z.kind) same))), (λ t. absurd (k t)))
