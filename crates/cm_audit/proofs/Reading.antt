-- What was read of a stream, line by line.
use Rattle.std.proofs.Common.{◌≡◌, ◌≤◌, ℕ, ◌+◌, refl, sym, ap, ◌∙◌, List, [], ◌∷◌, ◌++◌, true, false, Bool, append_assoc, append-nil, length, arith}
use Rattle.std.specs.Prelude.{if◌then◌else◌}
use Rattle.std.specs.List.{flat_map}
use Rattle.cm_envelope.specs.Lines.{Line, FeedAnswers, size, line_feed, line_then, max_piece_bytes}
use Rattle.cm_envelope.specs.Feeds.{FeedState, bytes_with_end, given_line, not_given, feed_left, new_feed, GivesLine, IsNextLine}
use Rattle.cm_stream.specs.Stream.{feed_of}
use Rattle.cm_stream.proofs.Lists.{length-both}
use Rattle.std.proofs.lemmas.List.{map-append}
use Rattle.cm_audit.specs.Audit.{Begins, ReadsNoFurther, all_written, contents}

-- lines, and then the others
abbrev pub lines_then : List (List ℕ) → FeedAnswers → FeedAnswers
lines_then lines f = record { lines = lines ++ f.lines; trouble = f.trouble }

-- so many lines were given, and this is left
pub record HasRead (before after : List ℕ) (feed : FeedState) (number : ℕ) : Type 0 where
  pub lines : List Line
  pub count : length lines ≡ number
  pub cut : before ≡ all_written lines ++ not_given feed after
  pub fed : feed_of before ≡ lines_then (contents lines) (feed_left feed after)
  pub long : length (all_written lines) ≡ feed.given

-- ---- lists

flat_snoc : {X : Type 0} (f : X → List ℕ) (xs : List X) (x : X) → flat_map f (xs ++ x ∷ []) ≡ flat_map f xs ++ f x
flat_snoc f [] x = append-nil (f x)
flat_snoc f (y ∷ xs) x = ap (λ ys. f y ++ ys) (flat_snoc f xs x) ∙ sym (append_assoc (f y) (flat_map f xs) (f x))

-- ---- what was read

pub one_more : (lines : List Line) (l : Line) (more : List (List ℕ)) → contents (lines ++ l ∷ []) ++ more ≡ contents lines ++ l.bytes ∷ more
one_more lines l more = ap (λ ls. ls ++ more) (map-append (λ (x : Line). x.bytes) lines (l ∷ [])) ∙ append_assoc (contents lines) (l.bytes ∷ []) more

as_long : (l : Line) → length (bytes_with_end l) ≡ size l
as_long l = go l.has_end
  where
    go : (b : Bool) → length (l.bytes ++ (if b then line_feed ∷ [] else [])) ≡ length l.bytes + (if b then 1 else 0)
    go true = length-both l.bytes (line_feed ∷ [])
    go false = ap length (append-nil l.bytes) ∙ omega arith

unfoldable pub nothing_read : (bytes : List ℕ) → HasRead bytes bytes (new_feed 67108864 1073741824) 0
nothing_read bytes = record { lines = []; count = refl; cut = refl; fed = refl; long = refl }

pub next_read : {before ys zs : List ℕ} {old new : FeedState} {n : ℕ} {line : List ℕ} (r : HasRead before ys old n) → IsNextLine old new ys zs line → GivesLine old new line → HasRead before zs new (n + 1)
next_read {before} {ys} {zs} {old} {new} {n} {line} r i g =
    let l = given_line new line in
    record {
      lines = r.lines ++ l ∷ [];
      count = length-both r.lines (l ∷ []) ∙ ap (λ k. k + 1) r.count;
      cut = r.cut ∙ ap (λ b. flat_map bytes_with_end r.lines ++ b) i.bytes ∙ sym (append_assoc (flat_map bytes_with_end r.lines) (bytes_with_end l) (not_given new zs)) ∙ ap (λ b. b ++ not_given new zs) (sym (flat_snoc bytes_with_end r.lines l));
      fed = r.fed ∙ ap (lines_then (contents r.lines)) i.first ∙ shift l;
      long = ap length (flat_snoc bytes_with_end r.lines l) ∙ length-both (flat_map bytes_with_end r.lines) (bytes_with_end l) ∙ (λ j. r.long j + as_long l j) ∙ sym g.given;
    }
  where
    shift : (l : Line) → lines_then (contents r.lines) (line_then l.bytes (feed_left new zs)) ≡ lines_then (contents (r.lines ++ l ∷ [])) (feed_left new zs)
    shift l = λ j. record { lines = sym (one_more r.lines l (feed_left new zs).lines) j; trouble = (feed_left new zs).trouble }

pub next_read_lines : {before ys zs : List ℕ} {old new : FeedState} {n : ℕ} {line : List ℕ} (r : HasRead before ys old n) (i : IsNextLine old new ys zs line) (g : GivesLine old new line) → (next_read r i g).lines ≡ r.lines ++ given_line new line ∷ []
unfolding next_read
next_read_lines r i g = refl

-- ---- how far it reads

pub first_lines : {before ys : List ℕ} {feed : FeedState} {n : ℕ} (r : HasRead before ys feed n) (ahead rest : List ℕ) → not_given feed ys ≡ ahead ++ rest → Begins before r.lines ahead rest
first_lines {before} {ys} {feed} r ahead rest e = record {
  read = flat_map bytes_with_end r.lines ++ ahead;
  cut = r.cut ∙ ap (λ b. flat_map bytes_with_end r.lines ++ b) e ∙ sym (append_assoc (flat_map bytes_with_end r.lines) ahead rest);
  has_read = refl;
  more = (feed_left feed ys).lines;
  first = ap (λ (f : FeedAnswers). f.lines) r.fed;
}

no_further : {before ys : List ℕ} {feed : FeedState} {n : ℕ} (r : HasRead before ys feed n) → length feed.held ≤ max_piece_bytes → (feed.is_ended ≡ true → ys ≡ []) → ReadsNoFurther n before ys
no_further {before} {ys} {feed} {n} r few none = record { lines = r.lines; ahead = feed.held; begins = first_lines r feed.held ys (all feed.is_ended refl); count = r.count; few = few }
  where
    all : (b : Bool) → feed.is_ended ≡ b → not_given feed ys ≡ feed.held ++ ys
    all true e = rw e (sym (append-nil feed.held) ∙ ap (λ l. feed.held ++ l) (sym (none e)))
    all false e = rw e refl

pub up_to_here : (before ys zs : List ℕ) (feed later : FeedState) (n : ℕ) (line : List ℕ) → HasRead before ys feed n → IsNextLine feed later ys zs line → GivesLine feed later line → (later.is_ended ≡ true → zs ≡ []) → ReadsNoFurther (n + 1) before zs
up_to_here before ys zs feed later n line r i g none = no_further (next_read r i g) g.ahead none
