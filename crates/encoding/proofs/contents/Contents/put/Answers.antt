use Rattle.std.proofs.Common.{◌≡◌, ◌+◌, ◌*◌, ◌++◌, length, drop, sym, refl, ap, ◌∙◌, arith}
use Rattle.std.specs.List.{flat_map}
use Rattle.std.proofs.lemmas.List.{map-id}
use Rattle.std.proofs.lemmas.List.Concat.{flat_map-append, flat_map_single}
use Rattle.recordings.specs.Layout.{ending, pair_of}
use Rattle.recordings.specs.Numbers.{bytes_of}
use Rattle.recordings.proofs.Words.{length_bytes}
use Rattle.recordings.proofs.Pairs.{length_pairs}
use Rattle.encoding.proofs.Pieces.{four_parts, joined_twice}
use Rattle.encoding.proofs.contents.Contents.put.Goals as goal

pub returns : goal.returns
returns c =
    let s = c.args.self.now in
    let note = s.note.now in
    let xs = s.rows.now in
    let es = s.entries.now in
    let out = c.args.out.now in
    let ps = flat_map pair_of es in
    let ws = ending note xs es in
    let lx = length_bytes xs in
    let lp : length (flat_map bytes_of ps) ≡ 8 * length es = length_bytes ps ∙ omega (arith, length_pairs es) in
    let t = four_parts (length note) (length note + 4 * length xs) (length note + 4 * length xs + 8 * length es) (length note + 4 * length xs + 8 * length es + 16) _ _ _ _ out note (flat_map bytes_of xs) (flat_map bytes_of ps) (flat_map bytes_of ws)
    (omega arith) refl (omega arith) (omega arith) (omega arith) (omega arith) (omega arith) (omega arith) in
    let j : flat_map bytes_of xs ++ (flat_map bytes_of ps ++ flat_map bytes_of ws) ≡ flat_map bytes_of (xs ++ (ps ++ ws)) =
    ap (λ z. flat_map bytes_of xs ++ z) (sym (flat_map-append bytes_of ps ws)) ∙ sym (flat_map-append bytes_of xs (ps ++ ws)) in
    let whole = t ∙ ap (λ z. (note ++ z) ++ drop (length note + 4 * length xs + 8 * length es + 16) out) j in
    let first = c.put_each.ensures ∙ flat_map_single (λ b. b) note ∙ map-id note in
    let entries = c.put_each-3.ensures ∙ joined_twice bytes_of pair_of es in
    record { end = refl; after = simp (c.ending_of-ending.ensures, first, c.put_each-2.ensures, entries, c.put_each-4.ensures) whole }
