-- Texts of several files and lines, time scales and roots that are chosen: the line -- ---- stands between two files.
mod Refusals
mod Runs
