-- What was heard of a source, step by step.
use Rattle.std.proofs.Common.{◌≡◌, ◌<◌, ℕ, List, [], ◌++◌, length, take, None, true, false, refl, sym, ap, ◌∙◌, subst, append_assoc, append-nil, arith}
use Rattle.std.proofs.lemmas.Bool.Decides.{nat_tests}
use Rattle.std.specs.Io.KnownBytes.{Consumes, IsAtEnd, Keeps}
use Rattle.std.proofs.KnownBytes.{Consumes-kept, Consumes-nil, Consumes-trans}
use Rattle.cm_envelope.specs.Device.{Input, Hears, OfReads, OfInput, OfWhole, is_end}
use Rattle.cm_envelope.specs.Feeds.{FeedState, NextLine, EndsWithSource, GivesNext, Leaves}

pub end_of : (n : ℕ) (piece : List ℕ) → is_end n piece ≡ true → (n ≡ 0) × (0 < length piece)
end_of n piece h = grind (arith, nat_tests)

pub hears_nothing : (i : Input) → Hears i i []
hears_nothing i = record { heard = sym (append-nil i.heard); shown = Consumes-nil i.to_come; ends = λ shown. shown }

pub hears_then : (a b c : Input) (read more : List ℕ) → Hears a b read → Hears b c more → Hears a c (read ++ more)
hears_then a b c read more p q =
    record {
      heard = q.heard ∙ ap (λ l. l ++ more) p.heard ∙ append_assoc a.heard read more;
      shown = Consumes-trans a.to_come b.to_come c.to_come read more p.shown q.shown;
      ends = λ shown. q.ends (p.ends shown);
    }

-- a read that gave bytes, or the end
pub hears_piece : (a b : Input) (n : ℕ) (piece : List ℕ) → (b.heard ≡ a.heard ++ take n piece) × (b.is_over ≡ is_end n piece)
    → Consumes a.to_come b.to_come (take n piece) × (n ≡ 0 → 0 < length piece → IsAtEnd b.to_come) → Hears a b (take n piece)
hears_piece a b n piece added shown =
    record {
      heard = added.0;
      shown = shown.0;
      ends = λ was over. let end = end_of n piece (sym added.1 ∙ over) in shown.1 end.0 end.1;
    }

-- a read that failed
pub hears_failure : (a b : Input) → (b.heard ≡ a.heard) × (b.is_over ≡ false) → Keeps a.to_come b.to_come → Hears a b []
hears_failure a b added kept =
    record {
      heard = added.0 ∙ sym (append-nil a.heard);
      shown = Consumes-kept a.to_come a.to_come b.to_come [] (Consumes-nil a.to_come) kept;
      ends = λ was over. let no : true ≡ false = sym over ∙ added.1 in cc;
    }

-- where a call heard nothing after these bytes
pub hears_kept : (a b c : Input) (read : List ℕ) → Hears a b read → Hears b c [] → Hears a c read
hears_kept a b c read p q = subst (λ l. Hears a c l) (append-nil read) (hears_then a b c read [] p q)

pub reads_weaker : {P Q : List ℕ → List ℕ → Type 0} (a b : Input) → OfReads a b P → ((xs ys : List ℕ) → P xs ys → Q xs ys) → OfReads a b Q
reads_weaker a b p f = (p.0, p.1, λ rest may. f (p.0 ++ rest) rest (p.2 rest may))

pub of_reads : {P : List ℕ → List ℕ → Type 0} {Q : List ℕ → Type 0} (a b : Input) → OfReads a b P → ((xs ys : List ℕ) → P xs ys → Q xs) → OfInput a b Q
of_reads a b p f = (p.0, p.1, λ rest may. f (p.0 ++ rest) rest (p.2 rest may))

pub input_weaker : {P Q : List ℕ → Type 0} (a b : Input) → OfInput a b P → ((xs : List ℕ) → P xs → Q xs) → OfInput a b Q
input_weaker a b p f = (p.0, p.1, λ rest may. f (p.0 ++ rest) (p.2 rest may))

-- at the end of the source nothing comes after the bytes heard
pub whole_of : (P : List ℕ → List ℕ → Type 0) (Q : List ℕ → Type 0) (a b : Input) → OfReads a b P → b.is_over ≡ true → ((xs : List ℕ) → P xs [] → Q xs) → OfWhole a b Q
whole_of P Q a b p over f = (p.0, p.1, over, f p.0 (subst (λ l. P l []) (append-nil p.0) (p.2 [] (λ now. refl))))

-- where nothing is read
pub reads_nothing : (P : List ℕ → List ℕ → Type 0) (a : Input) → ((xs : List ℕ) → P xs xs) → OfReads a a P
reads_nothing P a f = ([], hears_nothing a, λ rest may. f rest)

pub of_any : {P : List ℕ → Type 0} (a : Input) → ((xs : List ℕ) → P xs) → OfInput a a P
of_any a f = ([], hears_nothing a, λ rest may. f rest)

-- ---- what a feed has read

-- P holds of what a feed has read and any bytes that may still come, which are none once it has read the end
abbrev pub HasReadSo : FeedState → Input → Input → (List ℕ → List ℕ → Type 0) → Type 0
HasReadSo feed a b P =
    (read : List ℕ) × Hears a b read
    × ((rest : List ℕ) → (feed.is_ended ≡ true → rest ≡ []) → P (read ++ rest) rest)

pub read_so_far : (P : List ℕ → List ℕ → Type 0) (feed : FeedState) (a : Input) → ((xs : List ℕ) → P xs xs) → HasReadSo feed a a P
read_so_far P feed a f = ([], hears_nothing a, λ rest none. f rest)

nothing_more : (more rest : List ℕ) → more ≡ [] → rest ≡ [] → more ++ rest ≡ []
nothing_more more rest m r = rw (m, r) refl

-- one call more
pub reads_then : {P R : List ℕ → List ℕ → Type 0} {answer : NextLine} (feed later : FeedState) (a b c : Input) → HasReadSo feed a b P → feed.over ≡ None → Leaves feed later b c answer
    → ((xs ys zs : List ℕ) → (later.is_ended ≡ true → zs ≡ []) → P xs ys → GivesNext feed later ys zs answer → R xs zs) → HasReadSo later a c R
reads_then {P} {R} feed later a b c p still l f = (
  p.0 ++ l.read,
  hears_then a b c p.0 l.read p.1 l.heard,
  λ rest none.
      let before = p.2 (l.read ++ rest) (λ e. nothing_more l.read rest (l.past e).0 (none (l.past e).1)) in
      let all = f (p.0 ++ (l.read ++ rest)) (l.read ++ rest) rest none before (l.gives still rest (λ was now. none now)) in
      subst (λ xs. R xs rest) (sym (append_assoc p.0 l.read rest)) all,
)

-- and no further call
pub reads_no_more : (P : List ℕ → List ℕ → Type 0) (feed : FeedState) (a b : Input) → HasReadSo feed a b P → EndsWithSource feed b → OfReads a b P
reads_no_more P feed a b p ends = (p.0, p.1, λ rest may. p.2 rest (λ e. may (ends e)))
