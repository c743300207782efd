-- What is run at a place of a text ran, where the stream is released.
use Rattle.std.proofs.Common.{◌≡◌, ◌&&◌, ℕ, zero, suc, Bool, true, false, List, [], ◌∷◌, ◌++◌, Option, None, Some, Contains, refl, sym, subst, slice_get, arith}
use Rattle.std.specs.List.{AllByRecursion}
use Rattle.std.specs.Option.{option_map_or}
use Rattle.std.specs.Str.{bytes_eq}
use Rattle.std.proofs.lemmas.List.Elements.{Contains-append_right, Contains-get_or}
use Rattle.cm_envelope.specs.declared.envelope.Source.{Source}
use Rattle.cm_envelope.specs.declared.pickle.Pickle.{Pickle}
use Rattle.cm_stream.specs.References.{pickles, pickles_of, sources}
use Rattle.cm_stream.specs.Release.{is_named}
use Rattle.cm_stream.specs.ReleasedRuns.{IsCompiled, PickleRan}
use Rattle.cm_stream.proofs.Found.{bytes_are}
use Rattle.cm_stream.proofs.Lists.{all_here, and_true}
use Rattle.cm_stream.proofs.Refuted.{cut_at}
use Rattle.cm_attempt.proofs.Growing.{all_weaker}
use Rattle.cm_stream.proofs.Released.{kept_so, named_ran, released_ran}
use Rattle.cm_ran.specs.RunAt.{RanAt, is_run_of}

some_so : {X : Type 0} (p : X → Bool) (o : Option X) → option_map_or p o false ≡ true → (x : X) × (o ≡ Some x) × (p x ≡ true)
some_so p None h = cc
some_so p (Some x) h = (x, refl, h)

at_place : {X : Type 0} (P : X → Type 0) (xs : List X) (i : ℕ) (x : X) → AllByRecursion P xs → slice_get xs i ≡ Some x → P x
at_place P [] i x all at = cc
at_place P (y ∷ ys) zero x all at = let same : y ≡ x = cc in subst P same all.0
at_place P (y ∷ ys) (suc i) x all at = at_place P ys i x all.1 at

contains_here : {X : Type 0} (xs : List X) (x : X) (ys : List X) → Contains (xs ++ x ∷ ys) x
contains_here xs x ys = Contains-append_right xs (x ∷ ys) x (Contains-get_or (x ∷ ys) 0 x (omega arith))

pub ran_at : RanAt
ran_at settings asked bytes counts found r text place h =
    let es = r.judged in
    let at = cut_at (λ (s : Source). bytes_eq text s.content && is_run_of es s.uri place) (sources es) h in
    let both = and_true (bytes_eq text at.here.content) (is_run_of es at.here.uri place) at.passes in
    let its = some_so (is_named es) (slice_get (pickles_of at.here.uri es) place) both.1 in
    let Named : Pickle → Type 0 = λ p. is_named es p ≡ true → PickleRan settings.policy es p in
    let all : AllByRecursion Named (pickles_of at.here.uri es) =
    all_weaker (λ p. Named p × (bytes_eq at.here.uri p.uri ≡ true)) Named (λ p k. k.0) (pickles_of at.here.uri es)
    (kept_so Named (λ p. bytes_eq at.here.uri p.uri) (pickles es) (named_ran settings asked bytes counts found r)) in
    record {
      source = at.here;
      is_there = subst (λ (ss : List Source). Contains ss at.here) (sym at.cut) (contains_here at.front at.here at.back);
      same_text = sym (bytes_are text at.here.content both.0);
      compiled = all_here (IsCompiled es) at.front at.here at.back (subst (AllByRecursion (IsCompiled es)) at.cut (released_ran settings asked bytes counts found r).0.each_source);
      pickle = its.0;
      at_place = its.1;
      ran = at_place Named (pickles_of at.here.uri es) place its.0 all its.1 its.2;
    }
