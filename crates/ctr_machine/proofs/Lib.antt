mod Causes
mod Answers
mod Numbers
