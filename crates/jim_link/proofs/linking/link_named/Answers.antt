use Rattle.jim_link.proofs.linking.link_named.Goals as goal

pub link_classes-requires : goal.link_classes-requires
link_classes-requires c = λ p is. c.requires.form p (record { world = c.in-Ok.classes.world; is_world = c.in-Ok.ensures.world; linked = is })
