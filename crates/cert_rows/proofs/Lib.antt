mod Arcs
