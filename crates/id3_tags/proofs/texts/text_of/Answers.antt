use Rattle.std.proofs.Common.{◌≡◌, List, ℕ, Option, Some, None, refl, sym, ap, ◌∙◌}
use Rattle.std.specs.Option.{option_or}
use Rattle.id3_tags.specs.declared.encoding.Kind.{Kind}
use Rattle.id3_tags.specs.Tags.{Id3Tag}
use Rattle.id3_tags.specs.Frames.{Id3Frame, first_frame, frames}
use Rattle.id3_tags.specs.Texts.{text_named, first_text, text_of}
use Rattle.id3_tags.specs.Views.{tag_data, frame_data}
use Rattle.id3_tags.proofs.FrameLaws.{frames_some, frames_none}
use Rattle.id3_tags.proofs.texts.text_of.Goals as goal

-- the first frame before those that follow it
one_before : (tag : Id3Tag) (kind : Kind) (identifier : List ℕ) (frame : Id3Frame) (bytes rest : List ℕ) (all : Option (List ℕ)) → first_text tag kind identifier (frames tag.version bytes) ≡ all → first_frame tag.version bytes ≡ Some (frame, rest)
    → option_or (text_named tag kind identifier frame) (first_text tag kind identifier (frames tag.version rest)) ≡ all
one_before tag kind identifier frame bytes rest all goes first = sym (ap (first_text tag kind identifier) (frames_some tag.version bytes frame rest first)) ∙ goes

text_found : (tag : Id3Tag) (kind : Kind) (identifier : List ℕ) (frame : Id3Frame) (bytes rest text : List ℕ) (all : Option (List ℕ)) → first_text tag kind identifier (frames tag.version bytes) ≡ all → first_frame tag.version bytes ≡ Some (frame, rest)
    → text_named tag kind identifier frame ≡ Some text → Some text ≡ all
text_found tag kind identifier frame bytes rest text all goes first named =
    sym (ap (λ (o : Option (List ℕ)). option_or o (first_text tag kind identifier (frames tag.version rest))) named) ∙ one_before tag kind identifier frame bytes rest all goes first

text_passed : (tag : Id3Tag) (kind : Kind) (identifier : List ℕ) (frame : Id3Frame) (bytes rest : List ℕ) (all : Option (List ℕ)) → first_text tag kind identifier (frames tag.version bytes) ≡ all → first_frame tag.version bytes ≡ Some (frame, rest)
    → text_named tag kind identifier frame ≡ None → first_text tag kind identifier (frames tag.version rest) ≡ all
text_passed tag kind identifier frame bytes rest all goes first named =
    sym (ap (λ (o : Option (List ℕ)). option_or o (first_text tag kind identifier (frames tag.version rest))) named) ∙ one_before tag kind identifier frame bytes rest all goes first

none_left : (tag : Id3Tag) (kind : Kind) (identifier bytes : List ℕ) (all : Option (List ℕ)) → first_text tag kind identifier (frames tag.version bytes) ≡ all → first_frame tag.version bytes ≡ None → None ≡ all
none_left tag kind identifier bytes all goes first = sym (ap (first_text tag kind identifier) (frames_none tag.version bytes first)) ∙ goes

pub loop-frame-init : goal.loop-frame-init
unfolding text_of
loop-frame-init c = refl

pub returns-in-Some-2 : goal.returns-in-Some-2
returns-in-Some-2 c =
    let first : first_frame c.args.tag.version c.loop-frame.rest.now ≡ Some (frame_data c.in-Some.frame, c.in-Some.after.now) = cc (c.in-Some.ensures.value) in
    text_found (tag_data c.args.tag) c.args.kind c.args.identifier.now (frame_data c.in-Some.frame) c.loop-frame.rest.now c.in-Some.after.now c.in-Some-2.text (text_of (tag_data c.args.tag) c.args.kind c.args.identifier.now)
    c.loop-frame.invariant first (sym c.in_ok-text.ensures ∙ c.in-Some-2.is)

pub loop-frame-preserved : goal.loop-frame-preserved
loop-frame-preserved c =
    let first : first_frame c.args.tag.version c.loop-frame.rest.now ≡ Some (frame_data c.in-Some.frame, c.in-Some.after.now) = cc (c.in-Some.ensures.value) in
    text_passed (tag_data c.args.tag) c.args.kind c.args.identifier.now (frame_data c.in-Some.frame) c.loop-frame.rest.now c.in-Some.after.now (text_of (tag_data c.args.tag) c.args.kind c.args.identifier.now)
    c.loop-frame.invariant first (sym c.in_ok-text.ensures ∙ c.in-None.is)

pub returns : goal.returns
returns c =
    none_left (tag_data c.args.tag) c.args.kind c.args.identifier.now c.loop-frame.rest.now (text_of (tag_data c.args.tag) c.args.kind c.args.identifier.now)
    c.loop-frame.invariant c.in_default.ensures.value
