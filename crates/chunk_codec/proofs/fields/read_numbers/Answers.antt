use Rattle.std.proofs.Common.{◌≡◌, [], ◌∷◌, ◌++◌, FitsSigned, to_z-of_z, ap, ◌∙◌, arith, rules, rules, length-append}
use Rattle.std.specs.Int.{w128}
use Rattle.std.proofs.lemmas.List.Elements.{All-nil, All-cons, All-append}
use Rattle.chunk_codec.specs.Bytes.{long_bytes}
use Rattle.chunk_codec.proofs.Reading.{pieces_more}
use Rattle.chunk_codec.proofs.fields.read_numbers.Goals as goal

pub loop-preserved : goal.loop-preserved
loop-preserved c =
    let z = c.number_of_long.result in
    let fits : FitsSigned w128 z = search rules in
    let items : c.push.new.self.items ≡ c.loop.numbers.items ++ z ∷ [] =
    c.in_ok-push.ensures.items ∙ ap (λ y. c.loop.numbers.items ++ y ∷ []) (to_z-of_z fits) in
    rw items
    (record {
      read = pieces_more long_bytes c.loop.numbers.items z c.args.bytes.now c.loop.rest.now _ _ c.loop.invariant.read c.split_at.ensures.by_index.0 c.number_of_long.ensures;
      left = omega (arith, c.split_at.ensures.back_len);
      count = simp length-append (omega arith);
      fit = All-append (FitsSigned w128) c.loop.numbers.items (z ∷ []) c.loop.invariant.fit (All-cons (FitsSigned w128) z [] fits (All-nil (FitsSigned w128)));
    })
