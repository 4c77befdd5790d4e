use Rattle.std.proofs.Common.{◌++◌, ℕ, List, ap, ◌∙◌}
use Rattle.byte_formats.specs.Bytes.{four, text1, text2}
use Rattle.tape_frames.specs.Layouts.{plain_head_bytes}
use Rattle.tape_frames.proofs.Pages.{join}
use Rattle.tape_frames.proofs.dump_head.write_plain.Goals as goal

pub returns-clause-value : goal.returns-clause-value
returns-clause-value c =
    join c.new-page.result c.four.new.self c.text1-2.new.self (four c.args.a.now.id) (four c.args.a.now.initial ++ (four c.args.a.now.parent ++ (four c.args.a.now.expires ++ (four c.args.a.now.tape ++ (four c.args.a.now.part ++ (four c.args.a.now.volumes ++ (text1 c.args.a.now.set ++ (text2 c.args.a.now.level ++ (text1 c.args.a.now.base))))))))) (join c.four.new.self c.four-2.new.self c.text1-2.new.self (four c.args.a.now.initial) (four c.args.a.now.parent ++ (four c.args.a.now.expires ++ (four c.args.a.now.tape ++ (four c.args.a.now.part ++ (four c.args.a.now.volumes ++ (text1 c.args.a.now.set ++ (text2 c.args.a.now.level ++ (text1 c.args.a.now.base)))))))) (join c.four-2.new.self c.four-3.new.self c.text1-2.new.self (four c.args.a.now.parent) (four c.args.a.now.expires ++ (four c.args.a.now.tape ++ (four c.args.a.now.part ++ (four c.args.a.now.volumes ++ (text1 c.args.a.now.set ++ (text2 c.args.a.now.level ++ (text1 c.args.a.now.base))))))) (join c.four-3.new.self c.four-4.new.self c.text1-2.new.self (four c.args.a.now.expires) (four c.args.a.now.tape ++ (four c.args.a.now.part ++ (four c.args.a.now.volumes ++ (text1 c.args.a.now.set ++ (text2 c.args.a.now.level ++ (text1 c.args.a.now.base)))))) (join c.four-4.new.self c.four-5.new.self c.text1-2.new.self (four c.args.a.now.tape) (four c.args.a.now.part ++ (four c.args.a.now.volumes ++ (text1 c.args.a.now.set ++ (text2 c.args.a.now.level ++ (text1 c.args.a.now.base))))) (join c.four-5.new.self c.four-6.new.self c.text1-2.new.self (four c.args.a.now.part) (four c.args.a.now.volumes ++ (text1 c.args.a.now.set ++ (text2 c.args.a.now.level ++ (text1 c.args.a.now.base)))) (join c.four-6.new.self c.four-7.new.self c.text1-2.new.self (four c.args.a.now.volumes) (text1 c.args.a.now.set ++ (text2 c.args.a.now.level ++ (text1 c.args.a.now.base))) (join c.four-7.new.self c.text1.new.self c.text1-2.new.self (text1 c.args.a.now.set) (text2 c.args.a.now.level ++ (text1 c.args.a.now.base)) (join c.text1.new.self c.text2.new.self c.text1-2.new.self (text2 c.args.a.now.level) (text1 c.args.a.now.base) (c.text1-2.ensures.value ∙ ap (λ (t : List ℕ). c.text2.new.self ++ text1 t) c.bytes-3.ensures.value) (c.text2.ensures.value ∙ ap (λ (t : List ℕ). c.text1.new.self ++ text2 t) c.bytes-2.ensures.value)) (c.text1.ensures.value ∙ ap (λ (t : List ℕ). c.four-7.new.self ++ text1 t) c.bytes.ensures.value)) (c.four-7.ensures.value)) (c.four-6.ensures.value)) (c.four-5.ensures.value)) (c.four-4.ensures.value)) (c.four-3.ensures.value)) (c.four-2.ensures.value)) (c.four.ensures.value)
    ∙ ap (λ (h : List ℕ). h ++ plain_head_bytes c.args.a.now) c.new-page.ensures.value
