-- What a push does to the entries that a writer took.
use Rattle.std.proofs.Common.{◌≡◌, ◌≢◌, ◌+◌, ◌%◌, ◌==◌, ◌++◌, [], ◌∷◌, ◌∙◌}
use Rattle.std.proofs.Common.{arith, append-nil, append_assoc, true, Ok, Err, Result, OnOk, ℕ, List, length, Some, None, refl, sym, ap, subst, cond, unwrap_or, IsSome, is_some, length-append}
use Rattle.std.specs.declared.option.Option.{Option}
use Rattle.std.proofs.lemmas.Grind.{common_steps}
use Rattle.mg_dev.specs.declared.device.PutErr.{PutErr}
use Rattle.mg_dev.specs.declared.device.PutErr.TheVariants as put
use Rattle.mg_dev.specs.Files.{Files, Reads, bytes_at, file_at}
use Rattle.mg_bits.specs.Writer.{Writing, put_to, WroteTo, Wrote}
use Rattle.mg_defs.specs.Numbers.{four}
use Rattle.mg_defs.specs.Front.{Entry, IsEntry, AreEntries, entry_bytes, front, whole_at, last_string, front_from, places_from, shared}
use Rattle.mg_front.specs.Entries.{coded_entry, cut_bytes}
use Rattle.std.specs.Option.{ForSome, option_map}
use Rattle.mg_dev.specs.Files.{SameReads}
use Rattle.mg_front.specs.Fronting.{Fronting, Took, PlacesTook, PlaceWrote, WroteToPlaces, StartedPlaces, WroteToAsked, IsNotAsked, Finished, PlacesHold, Puts, HoldsNothing}
use Rattle.mg_defs.proofs.EntryLaws.{front_more, whole_more, entries_more, last_append}

told_back : (f g : Option Files) → is_some g ≡ is_some f → IsSome g → IsSome f
told_back f g e told = cc

same_bytes : (f g : Option Files) (n : List ℕ) → file_at g n ≡ file_at f n → bytes_at g n ≡ bytes_at f n
same_bytes f g n e = ap (λ o. unwrap_or o []) e

-- writing places leaves the strings
strings_stay : (p : Option Writing) (name : List ℕ) (f mid : Option Files) (r s : Reads) (es : List Entry) → WroteToPlaces p f mid r s →
    PlacesTook p name f es → (file_at mid name ≡ file_at f name) × (is_some mid ≡ is_some f)
strings_stay None name f mid r s es wrote took = (ap (λ g. file_at g name) wrote.0, ap is_some wrote.0)
strings_stay (Some p) name f mid r s es wrote took = (wrote.others name (λ same. took.0 (sym same)), wrote.told)

places_more : (p q : Option Writing) (name next_name : List ℕ) (f mid now : Option Files) (es : List Entry) (e : Entry) (bytes : List ℕ) → next_name ≡ name →
    PlaceWrote p q f mid bytes → (IsSome now → IsSome mid) → (IsSome mid → IsSome f) → ((n : List ℕ) → n ≢ name → file_at now n ≡ file_at mid n) →
    whole_at (es ++ e ∷ []) ≡ whole_at es ++ bytes → PlacesTook p name f es → PlacesTook q next_name now (es ++ e ∷ [])
places_more None None name next_name f mid now es e bytes same wrote b c others more took = tt
places_more None (Some q) name next_name f mid now es e bytes same wrote b c others more took = absurd wrote
places_more (Some p) None name next_name f mid now es e bytes same wrote b c others more took = absurd wrote
places_more (Some p) (Some q) name next_name f mid now es e bytes same wrote b c others more took = (
  λ clash. took.0 (sym wrote.name ∙ clash ∙ same),
  λ told. ap (λ t. t ++ q.buffered) (same_bytes mid now q.name (others q.name (λ clash. took.0 (sym wrote.name ∙ clash)))) ∙ wrote.bytes (c (b told))
      ∙ ap (λ t. t ++ bytes) (took.1 (c (b told))) ∙ sym more,
)

pub took_more : {w next : Fronting} {f mid now : Option Files} (r : Reads) {s t : Reads} (es : List Entry) {e : Entry} → Took w f es → IsEntry w.width w.count w.last e →
    PlaceWrote w.places next.places f mid (cond (w.count % 4 == 0) (four w.place) []) → WroteToPlaces w.places f mid r s →
    Wrote w.strings next.strings mid now (entry_bytes w.count w.last e) → WroteTo w.strings.name mid now s t → next.width ≡ w.width → next.count ≡ w.count + 1 →
    next.place ≡ w.place + length (entry_bytes w.count w.last e) → next.last ≡ e.string → Took next now (es ++ e ∷ [])
took_more {w} {next} {f} {mid} {now} r {s} es {e} took entry placed places wrote strings width count place last =
    let is : IsEntry w.width (length es) (last_string [] es) e = subst (λ l. IsEntry w.width (length es) l e) took.last (subst (λ n. IsEntry w.width n w.last e) took.count entry) in
    let code : entry_bytes w.count w.last e ≡ entry_bytes (length es) (last_string [] es) e = ap (λ n. entry_bytes n w.last e) took.count ∙ ap (λ l. entry_bytes (length es) l e) took.last in
    let all : front (es ++ e ∷ []) ≡ front es ++ entry_bytes (length es) (last_string [] es) e = front_more es e in
    let stay = strings_stay w.places w.strings.name f mid r s es places took.places in
    let back : IsSome now → IsSome mid = told_back mid now strings.told in
    let more : whole_at (es ++ e ∷ []) ≡ whole_at es ++ cond (w.count % 4 == 0) (four w.place) [] = whole_more es e
    ∙ ap (λ n. whole_at es ++ cond (n % 4 == 0) (four (length (front es))) []) (sym took.count)
    ∙ ap (λ n. whole_at es ++ cond (w.count % 4 == 0) (four n) []) (sym took.place) in
    record {
      count = count ∙ omega (arith, took.count, length-append es (e ∷ []));
      last = last ∙ sym (last_append [] es (e ∷ []));
      entries = subst (λ n. AreEntries n 0 [] (es ++ e ∷ [])) (sym width) (entries_more w.width es e took.entries is);
      place = place ∙ omega (arith, took.place, ap length code, ap length all, length-append (front es) (entry_bytes (length es) (last_string [] es) e));
      strings = λ told. wrote.bytes (back told) ∙ ap (λ u. u ++ w.strings.buffered ++ entry_bytes w.count w.last e) (same_bytes f mid w.strings.name stay.0)
          ∙ ap (λ u. u ++ entry_bytes w.count w.last e) (took.strings (told_back f mid stay.1 (back told))) ∙ ap (λ u. front es ++ u) code ∙ sym all;
      places = places_more w.places next.places w.strings.name next.strings.name f mid now es e _ wrote.name placed back (told_back f mid stay.1) strings.others more took.places;
    }

-- ---- the first and the last call

-- a writer that has started stands for no entry
pub took_none : (w : Fronting) (asked : Option (List ℕ)) (f mid now : Option Files) (r s : Reads) → w.count ≡ 0 → w.last ≡ [] → w.place ≡ 0 →
    (IsSome f → put_to w.strings mid ≡ []) → is_some mid ≡ is_some f → StartedPlaces asked w.places mid now → WroteToAsked asked mid now r s →
    ForSome asked (λ name. name ≢ w.strings.name) → Took w now []
unfolding front_from places_from
took_none w None f mid now r s count last place empty back started wrote apart = record {
  count = count;
  last = last;
  entries = tt;
  place = place;
  strings = λ told. ap (put_to w.strings) wrote.0 ∙ empty (told_back f mid back (subst IsSome wrote.0 told));
  places = no_places w.places started;
}
  where
    no_places : (p : Option Writing) → StartedPlaces None p mid now → PlacesTook p w.strings.name now []
    no_places None started = tt
    no_places (Some p) started = absurd started
took_none w (Some name) f mid now r s count last place empty back started wrote apart = record {
  count = count;
  last = last;
  entries = tt;
  place = place;
  strings = λ told. ap (λ t. t ++ w.strings.buffered) (same_bytes mid now w.strings.name (wrote.others w.strings.name (λ same. apart name refl (sym same))))
      ∙ empty (told_back f mid back (told_back mid now wrote.told told));
  places = some_places w.places started;
}
  where
    some_places : (p : Option Writing) → StartedPlaces (Some name) p mid now → PlacesTook p w.strings.name now []
    some_places None started = absurd started
    some_places (Some p) started = (λ same. apart name refl (sym started.0 ∙ same), λ told. started.1 (told_back mid now wrote.told told))

pub asked_others : (asked : Option (List ℕ)) (strings n : List ℕ) (f mid now : Option Files) (r s t : Reads) → WroteTo strings f mid r s →
    WroteToAsked asked mid now s t → IsNotAsked n strings asked → file_at now n ≡ file_at f n
asked_others None strings n f mid now r s t wrote asked apart = ap (λ g. file_at g n) asked.0 ∙ wrote.others n apart
asked_others (Some places) strings n f mid now r s t wrote asked apart = asked.others n apart.1 ∙ wrote.others n apart.0

pub asked_told : (asked : Option (List ℕ)) (f now : Option Files) (r s : Reads) → WroteToAsked asked f now r s → is_some now ≡ is_some f
asked_told None f now r s wrote = ap is_some wrote.0
asked_told (Some places) f now r s wrote = wrote.told

pub asked_reads : (asked : Option (List ℕ)) (f now : Option Files) (r s : Reads) → WroteToAsked asked f now r s → SameReads r s
asked_reads None f now r s wrote = wrote.1
asked_reads (Some places) f now r s wrote = wrote.reads

-- the files after the last call
pub finished : (w : Fronting) (strings : Writing) (places : Option Writing) (f mid now : Option Files) (r s t : Reads) (es : List Entry) → Took w f es →
    IsSome f → Wrote w.strings strings f mid [] → strings.buffered ≡ [] → WroteTo w.strings.name f mid r s → PlaceWrote w.places places mid now [] →
    HoldsNothing places → WroteToPlaces w.places mid now s t →
    Finished w now es
finished w strings places f mid now r s t es took told wrote nothing others placed held stays = record {
  strings = by_places w.places stays took.places ∙ sym (append-nil (bytes_at mid w.strings.name)) ∙ ap (λ t. bytes_at mid w.strings.name ++ t) (sym nothing)
      ∙ ap (λ n. bytes_at mid n ++ strings.buffered) (sym wrote.name) ∙ wrote.bytes told ∙ append-nil (put_to w.strings f) ∙ took.strings told;
  places = places_hold w.places places placed held took.places;
}
  where
    by_places : (p : Option Writing) → WroteToPlaces p mid now s t → PlacesTook p w.strings.name f es → bytes_at now w.strings.name ≡ bytes_at mid w.strings.name
    by_places None stay take = ap (λ g. bytes_at g w.strings.name) stay.0
    by_places (Some p) stay take = same_bytes mid now w.strings.name (stay.others w.strings.name (λ same. take.0 (sym same)))

    places_hold : (p q : Option Writing) → PlaceWrote p q mid now [] → HoldsNothing q → PlacesTook p w.strings.name f es → PlacesHold p now es
    places_hold None q put hold take = tt
    places_hold (Some p) None put hold take = absurd put
    places_hold (Some p) (Some q) put hold take =
        sym (append-nil (bytes_at now p.name)) ∙ ap (λ t. bytes_at now p.name ++ t) (sym hold) ∙ ap (λ n. bytes_at now n ++ q.buffered) (sym put.name)
        ∙ put.bytes (subst (λ b. b ≡ true) (sym others.told) told) ∙ append-nil (put_to p mid)
        ∙ ap (λ t. t ++ p.buffered) (same_bytes f mid p.name (others.others p.name take.0)) ∙ take.1 told

-- writing a place keeps the file
pub places_keep : (p q : Option Writing) (f g : Option Files) (bytes : List ℕ) → PlaceWrote p q f g bytes → option_map (λ (w : Writing). w.name) q ≡ option_map (λ (w : Writing). w.name) p
places_keep None None f g bytes wrote = refl
places_keep None (Some q) f g bytes wrote = absurd wrote
places_keep (Some p) None f g bytes wrote = absurd wrote
places_keep (Some p) (Some q) f g bytes wrote = ap Some wrote.name

-- ---- one write after another

pub puts_then : {U T : Type 0} {value : U} {a b c : Writing} {p q : List ℕ} (result : Result T PutErr) {f g h : Option Files} {r s t : Reads} {x y z : ℕ} →
    Puts a b p (Ok value) f g r s x y → Puts b c q result g h s t y z → Puts a c (p ++ q) result f h r t x z
puts_then {T = T} {a = a} {b} {c} {p} {q} result {f} {g} {h} {r} {s} {t} {x} {y} {z} one two = record {
  bytes = wrote_both result two.bytes;
  wrote = record {
    told = two.wrote.told ∙ one.wrote.told;
    others = λ n apart. two.wrote.others n (λ same. apart (same ∙ one.bytes.name)) ∙ one.wrote.others n apart;
    reads = λ part. two.wrote.reads part ∙ one.wrote.reads part;
  };
  cause = record { later = omega (arith, one.cause.later, two.cause.later); failed = λ is. omega (arith, one.cause.later, two.cause.failed is) };
}
  where
    wrote_both : (result : Result T PutErr) → OnOk result (Wrote b c g h q) → OnOk result (Wrote a c f h (p ++ q))
    wrote_both (Ok value) more = record {
      name = more.name ∙ one.bytes.name;
      bytes = λ told. more.bytes (subst (λ o. o ≡ true) (sym one.wrote.told) told) ∙ ap (λ u. u ++ q) (one.bytes.bytes told) ∙ append_assoc (put_to a f) p q;
    }
    wrote_both (Err refusal) more = tt

-- a refusal goes up
pub puts_refused : {T U : Type 0} {refusal : PutErr} {a b : Writing} {p q : List ℕ} {f g : Option Files} {r s : Reads} {x y : ℕ} →
    Puts {T = T} a b p (Err refusal) f g r s x y → Puts {T = U} a b q (Err refusal) f g r s x y
puts_refused {refusal = put.Failed} one = record { bytes = tt; wrote = one.wrote; cause = record { later = one.cause.later; failed = λ is. one.cause.failed refl } }
puts_refused {refusal = put.Memory} one = record { bytes = tt; wrote = one.wrote; cause = record { later = one.cause.later; failed = λ is. absurd cc } }

-- what was written is answered
pub puts_answered : {T U : Type 0} {value : T} (answer : U) {a b : Writing} {p q : List ℕ} {f g : Option Files} {r s : Reads} {x y : ℕ} → q ≡ p →
    Puts a b p (Ok value) f g r s x y → Puts a b q (Ok answer) f g r s x y
puts_answered answer {a} {b} {f = f} {g} same one = record {
  bytes = subst (Wrote a b f g) (sym same) one.bytes;
  wrote = one.wrote;
  cause = record { later = one.cause.later; failed = λ is. absurd cc };
}

-- the same bytes
pub puts_as : {T : Type 0} {result : Result T PutErr} {a b : Writing} {p q : List ℕ} {f g : Option Files} {r s : Reads} {x y : ℕ} → p ≡ q →
    Puts a b p result f g r s x y → Puts a b q result f g r s x y
puts_as {result = result} {a} {b} {f = f} {g} {r} {s} {x} {y} same one = subst (λ bytes. Puts a b bytes result f g r s x y) same one

-- the bytes of an entry, by its number
pub whole_coded : (number : ℕ) (before string field : List ℕ) → number % 4 ≡ 0 → coded_entry number before string field ≡ length string ∷ (string ++ field)
unfolding entry_bytes
whole_coded number before string field is = grind (arith, common_steps)

pub cut_coded : (number : ℕ) (before string field : List ℕ) (from : ℕ) → (number % 4 ≡ 0 → ⊥) → from ≡ shared before string → coded_entry number before string field ≡ cut_bytes from string field
unfolding entry_bytes
cut_coded number before string field from other is = grind (arith, common_steps)
