use Rattle.std.proofs.lemmas.Result.{on_ok_weaker}
use Rattle.run_report.proofs.Telling.{object_site, object_text}
use Rattle.run_report.proofs.objects.push_object.Goals as goal

pub push_site_text-requires : goal.push_site_text-requires
push_site_text-requires c = object_site c.args.linked.now c.args.machine.now.state.heap c.args.object c.site.result c.requires.sited c.requires.object c.site.ensures

pub returns : goal.returns
returns c = on_ok_weaker c.push_site_text.result
    (object_text c.args.linked.now c.args.machine.now.state.heap c.args.object c.site.result _ _ c.requires.object c.site.ensures)
    c.push_site_text.ensures
