-- What holds of the lines of sources that are refused and of run hooks.
use Rattle.std.proofs.Common.{◌≡◌, ◌∙◌, sym, refl, inl, inr, List, [], ◌∷◌, ℕ, Option, None, Some, false}
use Rattle.std.specs.Prelude.{is_some, option_map}
use Rattle.std.specs.List.{AllByRecursion, filter_map, list_any}
use Rattle.cm_envelope.specs.declared.envelope.Source.{Source}
use Rattle.cm_envelope.specs.declared.envelope.TestRunHookStarted.{TestRunHookStarted}
use Rattle.cm_stream.specs.Readings.{IsReading, IsRefused, Refused}
use Rattle.cm_stream.specs.References.{run_hooks}
use Rattle.gk_grammar.proofs.LawLemmas.{one_fault_holds}
use Rattle.cm_reasons.specs.Laws.{NoHookCauses, NoneRefused, OneRefusedList}
use Rattle.cm_reasons.specs.RunReasons.{AreRefusedLines, bad_end, bad_hook_line, line_of_refused, refused_line}

one_line : (s : Source) (f g : IsRefused s.content) → line_of_refused s f ≡ line_of_refused s g
one_line s f g =
    let same = one_fault_holds s.content f.kind g.kind f.line g.line f.column g.column f.fault g.fault in
    λ j. refused_line s.uri (same.0 j) (same.1 j) (same.2 j)

pub one_list : OneRefusedList
one_list [] a b x y = x ∙ sym y
one_list (s ∷ ss) a b (inl (f, rest, e, more)) (inl (g, others, h, later)) =
    e ∙ (λ j. one_line s f.1 g.1 j ∷ one_list ss rest others more later j) ∙ sym h
one_list (s ∷ ss) a b (inl (f, rest, e, more)) (inr (fine, y)) = absurd (fine f)
one_list (s ∷ ss) a b (inr (fine, x)) (inl (f, rest, e, more)) = absurd (fine f)
one_list (s ∷ ss) a b (inr (fine, x)) (inr (good, y)) = one_list ss a b x y

nothing : (x : List ℕ) (xs : List (List ℕ)) → [] ≡ x ∷ xs → ⊥
nothing x xs e = cc

all_good : (ss : List Source) → AreRefusedLines ss [] → AllByRecursion (λ s. IsReading s.content Refused → ⊥) ss
all_good [] x = tt
all_good (s ∷ ss) (inl (f, rest, e, more)) = absurd (nothing _ _ e)
all_good (s ∷ ss) (inr (fine, more)) = (fine, all_good ss more)

no_lines : (ss : List Source) → AllByRecursion (λ s. IsReading s.content Refused → ⊥) ss → AreRefusedLines ss []
no_lines [] x = refl
no_lines (s ∷ ss) x = inr (x.0, no_lines ss x.1)

pub none_refused : NoneRefused
none_refused ss = (all_good ss, no_lines ss)

module _ {X S Y : Type 0} (h : X → Option S) (f : X → S → Y) where
  left_out : (xs : List X) → filter_map (λ x. option_map (f x) (h x)) xs ≡ [] → list_any (λ x. is_some (h x)) xs ≡ false
  left_out [] e = refl
  left_out (x ∷ xs) e = go (h x) refl (left_out xs)
    where
      go : (o : Option S) → h x ≡ o → (filter_map (λ x. option_map (f x) (h x)) xs ≡ [] → list_any (λ x. is_some (h x)) xs ≡ false) → list_any (λ x. is_some (h x)) (x ∷ xs) ≡ false
      go None k rec = rw k (rec (rw k at e))
      go (Some s) k rec = let no_way = rw k at e in cc

  none_there : (xs : List X) → list_any (λ x. is_some (h x)) xs ≡ false → filter_map (λ x. option_map (f x) (h x)) xs ≡ []
  none_there [] e = refl
  none_there (x ∷ xs) e = go (h x) refl (none_there xs)
    where
      go : (o : Option S) → h x ≡ o → (list_any (λ x. is_some (h x)) xs ≡ false → filter_map (λ x. option_map (f x) (h x)) xs ≡ []) → filter_map (λ x. option_map (f x) (h x)) (x ∷ xs) ≡ []
      go None k rec = rw k (rec (rw k at e))
      go (Some s) k rec = let no_way = rw k at e in cc

pub no_hook_causes : NoHookCauses
no_hook_causes policy es = (
  left_out (bad_end policy es) (λ (s : TestRunHookStarted). bad_hook_line s.hook_id) (run_hooks es),
  none_there (bad_end policy es) (λ (s : TestRunHookStarted). bad_hook_line s.hook_id) (run_hooks es),
)
