mod Judged
mod Targeted
