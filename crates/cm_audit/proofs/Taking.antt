-- The lines of a stream, taken one after another, up to where that ends.
use Rattle.std.proofs.Common.{◌≡◌, ℕ, ◌+◌, refl, sym, ap, ◌∙◌, subst, List, [], ◌∷◌, ◌++◌, Some, None, Result, Ok, Err, true, inl, inr, append-nil, length}
use Rattle.std.proofs.lemmas.List.{length-map, map-append}
use Rattle.cm_envelope.specs.Device.{Input, OfReads}
use Rattle.cm_envelope.specs.Feeds.{FeedState, NextLine, EndsWithSource, GivesLine, GivesNext, IsNextLine, Leaves, feed_left, given_line, new_feed}
use Rattle.cm_envelope.specs.Lines.{FeedAnswers, Line, nothing, trouble_alone}
use Rattle.cm_envelope.specs.declared.feed.Trouble.{Trouble}
use Rattle.cm_envelope.specs.declared.feed.Trouble.TheVariants.{ReadFailed, LineTooLong, StreamTooLong, Memory}
use Rattle.cm_envelope.proofs.Sources.{HasReadSo, read_so_far, reads_no_more, reads_then}
use Rattle.cm_stream.specs.Stream.{feed_of}
use Rattle.cm_stream.specs.declared.laws.Audited.{Audited}
use Rattle.cm_audit.specs.Audit.{ReadsNoFurther, audited_at, contents}
use Rattle.cm_audit.specs.Taking.{TakesEach, TakesStream, TakesUntil, Taking}
use Rattle.cm_judge.specs.declared.stop.Stop.{Stop}
use Rattle.cm_audit.proofs.Reading.{HasRead, first_lines, lines_then, next_read, next_read_lines, nothing_read, up_to_here}

-- so many lines were given, and each was taken
pub record HasTaken {T : Type 0} (takes : Taking T) (first : T) (before after : List ℕ) (feed : FeedState) (n : ℕ) (now : T) : Type 0 where
  pub read : HasRead before after feed n
  pub taken : TakesEach takes first (contents read.lines) now

module _ {T : Type 0} (takes : Taking T) (first : T) where
  none_taken : (xs : List ℕ) → HasTaken takes first xs xs (new_feed 67108864 1073741824) 0 first
  unfolding nothing_read
  none_taken xs = record { read = nothing_read xs; taken = refl }

  pub begins : (feed : FeedState) → feed ≡ new_feed 67108864 1073741824 → (a : Input) → HasReadSo feed a a (λ xs ys. HasTaken takes first xs ys feed 0 first)
  begins feed f a = read_so_far (λ xs ys. HasTaken takes first xs ys feed 0 first) feed a (λ xs. rw f (none_taken xs))

  -- ---- a line that is taken

  one_more : (old mid new : T) (lines : List (List ℕ)) (line : List ℕ) → TakesEach takes old lines mid → takes mid line (Ok tt) new → TakesEach takes old (lines ++ line ∷ []) new
  one_more old mid new [] line same k = (new, subst (λ (t : T). takes t line (Ok tt) new) same k, refl)
  one_more old mid new (l ∷ ls) line h k = (h.0, h.1, one_more h.0 mid new ls line h.2 k)

  next_taken : (xs ys zs : List ℕ) (feed later : FeedState) (n : ℕ) (old new : T) (line : List ℕ) → HasTaken takes first xs ys feed n old → IsNextLine feed later ys zs line → GivesLine feed later line
      → takes old line (Ok tt) new → HasTaken takes first xs zs later (n + 1) new
  next_taken xs ys zs feed later n old new line h i g k =
      let both : contents (h.read.lines ++ given_line later line ∷ []) ≡ contents h.read.lines ++ line ∷ [] = map-append (λ (l : Line). l.bytes) h.read.lines (given_line later line ∷ []) in
      let same : contents (next_read h.read i g).lines ≡ contents h.read.lines ++ line ∷ [] = ap contents (next_read_lines h.read i g) ∙ both in
      record {
        read = next_read h.read i g;
        taken = subst (λ (ls : List (List ℕ)). TakesEach takes first ls new) (sym same) (one_more first old new (contents h.read.lines) line h.taken k);
      }

  pub goes_on : (feed later : FeedState) (n : ℕ) (old new : T) (line : List ℕ) (a b c : Input) → HasReadSo feed a b (λ xs ys. HasTaken takes first xs ys feed n old) → feed.over ≡ None
      → Leaves feed later b c (Ok (Some line)) → GivesLine feed later line → takes old line (Ok tt) new → HasReadSo later a c (λ xs zs. HasTaken takes first xs zs later (n + 1) new)
  goes_on feed later n old new line a b c p still leaves g k =
      reads_then {P = λ xs ys. HasTaken takes first xs ys feed n old} {R = λ xs zs. HasTaken takes first xs zs later (n + 1) new} feed later a b c p still leaves
      (λ xs ys zs none h i. next_taken xs ys zs feed later n old new line h i g k)

  -- ---- how it ends

  -- after one call more
  ended : (now new : T) (result : Result ℕ (Result Audited Trouble)) (call : NextLine) (feed later : FeedState) (n : ℕ) (a b c : Input) → HasReadSo feed a b (λ xs ys. HasTaken takes first xs ys feed n now) → feed.over ≡ None
      → EndsWithSource feed b → Leaves feed later b c call
      → ((xs ys zs : List ℕ) → (later.is_ended ≡ true → zs ≡ []) → HasTaken takes first xs ys feed n now → GivesNext feed later ys zs call → TakesStream takes first new result xs zs) → OfReads a c (TakesStream takes first new result)
  ended now new result call feed later n a b c p still ends leaves f =
      reads_no_more (TakesStream takes first new result) later a c
      (reads_then {P = λ xs ys. HasTaken takes first xs ys feed n now} {R = TakesStream takes first new result} feed later a b c p still leaves f)
      (leaves.source ends)

  -- how many lines were read
  as_many : (xs ys : List ℕ) (feed : FeedState) (n : ℕ) (r : HasRead xs ys feed n) → length (contents r.lines) ≡ n
  as_many xs ys feed n r = length-map r.lines (λ (l : Line). l.bytes) ∙ r.count

  -- the lines of the bytes, where none is left
  all_lines : (xs ys : List ℕ) (feed : FeedState) (n : ℕ) (r : HasRead xs ys feed n) (left : FeedAnswers) → feed_left feed ys ≡ left → left.lines ≡ [] → (feed_of xs).lines ≡ contents r.lines
  all_lines xs ys feed n r left e none =
      ap (λ (f : FeedAnswers). f.lines) r.fed ∙ ap (λ (f : FeedAnswers). contents r.lines ++ f.lines) e ∙ ap (λ (ls : List (List ℕ)). contents r.lines ++ ls) none ∙ append-nil (contents r.lines)

  pub ends : (feed later : FeedState) (n : ℕ) (now : T) (a b c : Input) → HasReadSo feed a b (λ xs ys. HasTaken takes first xs ys feed n now) → feed.over ≡ None
      → EndsWithSource feed b → Leaves feed later b c (Ok None) → OfReads a c (TakesStream takes first now (Ok n))
  ends feed later n now a b c p still at_end leaves =
      ended now now (Ok n) (Ok None) feed later n a b c p still at_end leaves
      (λ xs ys zs none h i.
      let all = all_lines xs ys feed n h.read nothing i refl in
      record {
        taken = subst (λ (ls : List (List ℕ)). TakesEach takes first ls now) (sym all) h.taken;
        whole = ap (λ (f : FeedAnswers). f.trouble) (h.read.fed ∙ ap (lines_then (contents h.read.lines)) i);
        count = sym (ap length all ∙ as_many xs ys feed n h.read);
      })

  pub stops : (feed later : FeedState) (n : ℕ) (old new : T) (line : List ℕ) (a b c : Input) → HasReadSo feed a b (λ xs ys. HasTaken takes first xs ys feed n old) → feed.over ≡ None
      → EndsWithSource feed b → Leaves feed later b c (Ok (Some line)) → (why : Stop) → takes old line (Err why) new → OfReads a c (TakesStream takes first new (Err (audited_at (n + 1) why)))
  stops feed later n old new line a b c p still at_end leaves why k =
      ended old new (Err (audited_at (n + 1) why)) (Ok (Some line)) feed later n a b c p still at_end leaves
      (λ xs ys zs none h i.
      let many : n ≡ length (contents h.read.lines) = sym (as_many xs ys feed n h.read) in
      inl (record {
        before = contents h.read.lines;
        line = line;
        after = (feed_left later zs).lines;
        cut = ap (λ (f : FeedAnswers). f.lines) h.read.fed ∙ ap (λ (f : FeedAnswers). contents h.read.lines ++ f.lines) i.first;
        last = old;
        taken = h.taken;
        why = why;
        stopped = k;
        answers = ap (λ m. audited_at (m + 1) why) many;
        no_further = subst (λ m. ReadsNoFurther (m + 1) xs zs) many (up_to_here xs ys zs feed later n line h.read i (leaves.line still) none);
      }))

  -- a trouble of the bytes
  at_trouble : (xs ys : List ℕ) (feed : FeedState) (n : ℕ) (now : T) (t : Trouble) → HasTaken takes first xs ys feed n now → feed_left feed ys ≡ trouble_alone t → TakesEach takes first (feed_of xs).lines now × ((feed_of xs).trouble ≡ Some t)
  at_trouble xs ys feed n now t h i = (
    subst (λ (ls : List (List ℕ)). TakesEach takes first ls now) (sym (all_lines xs ys feed n h.read (trouble_alone t) i refl)) h.taken,
    ap (λ (f : FeedAnswers). f.trouble) (h.read.fed ∙ ap (lines_then (contents h.read.lines)) i),
  )

  until : (xs ys zs : List ℕ) (feed later : FeedState) (n : ℕ) (now : T) (t : Trouble) → feed.line_limit ≡ 67108864 → feed.stream_limit ≡ 1073741824 → HasTaken takes first xs ys feed n now → GivesNext feed later ys zs (Err t) → TakesUntil takes first now t xs zs
  until xs ys zs feed later n now ReadFailed line stream h i = record {
    lines = h.read.lines;
    ahead = later.held;
    begins = first_lines h.read later.held zs i.0;
    taken = h.taken;
    nothing = rw (h.read.long, ← line, ← stream) i.2;
  }
  until xs ys zs feed later n now LineTooLong line stream h i = at_trouble xs ys feed n now LineTooLong h i
  until xs ys zs feed later n now StreamTooLong line stream h i = at_trouble xs ys feed n now StreamTooLong h i
  until xs ys zs feed later n now Memory line stream h i = record {
    lines = contents h.read.lines;
    more = (feed_left feed ys).lines;
    first = ap (λ (f : FeedAnswers). f.lines) h.read.fed;
    taken = h.taken;
  }

  pub troubled : (feed later : FeedState) (n : ℕ) (now : T) (a b c : Input) → HasReadSo feed a b (λ xs ys. HasTaken takes first xs ys feed n now) → feed.over ≡ None
      → EndsWithSource feed b → feed.line_limit ≡ 67108864 → feed.stream_limit ≡ 1073741824 → (t : Trouble) → Leaves feed later b c (Err t) → OfReads a c (TakesStream takes first now (Err (Err t)))
  troubled feed later n now a b c p still at_end line stream t leaves =
      ended now now (Err (Err t)) (Err t) feed later n a b c p still at_end leaves
      (λ xs ys zs none h i. inr (t, refl, until xs ys zs feed later n now t line stream h i))
